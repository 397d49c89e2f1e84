pub mod NamedLaws
pub mod GrantedLaws
pub mod VerdictLaws
pub mod TargetLaws
pub mod LeftLaws
pub mod WelcomeLaws
