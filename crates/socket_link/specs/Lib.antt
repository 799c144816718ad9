pub mod Connecting
pub mod Links
pub mod Reasons
pub mod Sockets
pub mod Wires
pub mod Workers
