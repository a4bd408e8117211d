pub mod Extended
pub mod StepsWatched
