pub mod ContributionOf
pub mod LookedUp
pub mod TermsAccepted
