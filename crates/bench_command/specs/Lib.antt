pub mod StepsBench
