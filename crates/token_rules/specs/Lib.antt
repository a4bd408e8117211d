pub mod Classes
pub mod Laws
pub mod Reading
pub mod StepsOfWindows
pub mod Tokens
