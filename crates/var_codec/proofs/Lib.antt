pub mod Choices
pub mod Digits
pub mod Printed
pub mod Texts
pub mod Wide
pub mod Words
