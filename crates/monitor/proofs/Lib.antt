-- Laws that belong to no one function.
pub mod StartLaws
pub mod RowLaws
pub mod RisingLaws
pub mod EventLaws
pub mod ClippingLaws
pub mod AcceptedLaws
pub mod TurnLaws
pub mod StepLaws
pub mod Outcomes
