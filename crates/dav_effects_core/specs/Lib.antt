pub mod ByteForms
pub mod Reads
pub mod RecordFaults
pub mod RecordReading
pub mod RecordText
pub mod Records
