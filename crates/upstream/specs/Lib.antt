-- upstream's order: each step read off the store as it stands gives the same run
pub mod Beside
pub mod RecycledThen
pub mod ReadsThen
pub mod AsItStands
pub mod AbortThen
-- source 000's primitives, as it specifies them
pub mod Primitives
-- its commit, as the calls that a run here makes
pub mod Body
-- whatever a call asks holds where it is reached, and the calls leave the events that commit answers
pub mod EventsTold
-- source 002's clauses: visibility, postings, publication, what a failure leaves, guards, its witnesses
pub mod Visibility
pub mod Postings
pub mod Publication
pub mod Segment
pub mod GuardsHeld
pub mod Witness
