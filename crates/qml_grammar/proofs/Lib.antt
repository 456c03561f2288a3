mod FaultCases
pub mod LinedForms
mod Lengths
mod Looking
pub mod MemberForms
pub mod Opened
mod PrintCases
pub mod PrintedForms
mod TreeCases
