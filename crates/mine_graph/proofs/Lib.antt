pub mod QuietLaws
pub mod PassLaws
