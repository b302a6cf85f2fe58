-- What the site in memory holds, in the words of the play of a script.
pub mod Broughts
pub mod Comings
pub mod Connected
pub mod Dark
pub mod Disks
pub mod Early
pub mod Hazards
pub mod Made
pub mod Numbers
pub mod Peering
pub mod Places
pub mod Ranges
pub mod Sites
pub mod Sought
pub mod Sources
pub mod Steps
