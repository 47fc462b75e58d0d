-- Words that private contracts alone name.
pub mod NotedEnds
pub mod Expiring
pub mod LockRequests
pub mod LockTree
pub mod LockPlaces
pub mod Pruning
pub mod LockRepresents
pub mod SubtreeWalks
pub mod LockWalking
pub mod WayTests
