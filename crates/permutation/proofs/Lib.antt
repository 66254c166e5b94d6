pub mod PermutationLaws
