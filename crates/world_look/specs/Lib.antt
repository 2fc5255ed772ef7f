-- What the contracts of `world_look` cite beside the definitions of `world`.
pub mod Look
