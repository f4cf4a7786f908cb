-- What the parser claims: the grammar, how its derivations are spelled, their trees, and what is derived or where a text stops.
-- What serves the proof: a machine over any kind of values, the lists as they grow, and how the code's states stand to both.
-- ---- claims: what the contract of the program says
pub mod Grammar
pub mod Spelling
pub mod TreeOf
pub mod Derives
-- ---- scaffolding: what proofs and inner contracts say
pub mod Algebra
pub mod MachineStates
pub mod MachineOperands
pub mod MachineSteps
pub mod Machine
pub mod Trees
pub mod Growth
pub mod StateMeaning
pub mod StateFacts
pub mod StateSteps
pub mod StateOperands
pub mod View
pub mod Reading
