-- What a run of the request stream means.
pub mod laws
