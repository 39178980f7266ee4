-- Laws of what is stored.
pub mod Fields
pub mod Heads
pub mod Orders
pub mod Walks
pub mod Backs
pub mod SoundMemory
pub mod RawBytes
pub mod Storing
pub mod StoreAnswers
pub mod Unpacking
pub mod LoadAnswers
pub mod Examples
