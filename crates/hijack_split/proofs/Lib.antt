pub mod Above
pub mod NamingLaws
pub mod Everywhere
pub mod ChangeLaws
pub mod GivenLaws
pub mod TextPieces
pub mod RoundTrip
pub mod CutLaws
