pub mod TakenRounds
