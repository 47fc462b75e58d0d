pub mod BareServers
pub mod ChangeProps
pub mod KeptServers
pub mod Lives
pub mod Private
