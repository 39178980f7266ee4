pub mod TellsReplay
