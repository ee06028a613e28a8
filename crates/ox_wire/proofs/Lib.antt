pub mod Listed
pub mod Pieced
pub mod Rising
pub mod Ruled
pub mod Spelled
pub mod Tabled
