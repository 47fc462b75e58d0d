pub mod Basic
pub mod Crypt
pub mod CryptText
pub mod GuessCosts
pub mod Hashes
pub mod Private
pub mod Users
