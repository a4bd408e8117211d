pub mod StepsBooks
