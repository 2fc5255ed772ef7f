-- What the contracts of `registry_look` cite beside the rules themselves.
pub mod Look
