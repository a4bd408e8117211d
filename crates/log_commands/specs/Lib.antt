pub mod StepsPrinting
