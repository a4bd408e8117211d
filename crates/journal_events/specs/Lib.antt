pub mod ByEvents
