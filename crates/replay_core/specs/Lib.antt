-- One line at one place, and what each kind of line answers.
pub mod Turn
pub mod Lines
-- A script in parts.
pub mod Feed
pub mod HeldLine
pub mod Put
pub mod FeedLaws
-- The theorem: however a script is cut, the answers are the script's.
pub mod Long
pub mod InParts
-- The room that answers take, and what a replay into a buffer leaves.
pub mod Room
pub mod RoomLaws
pub mod Into
