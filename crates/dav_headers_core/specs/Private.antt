-- Words that contracts of private functions alone name.
pub mod IfReading
pub mod TagReading
