-- What the contracts of `table_probe` cite beside those of `table`.
pub mod Numbers
