-- The laws of every session. A reader of them believes Keeping, and what it names of Lineage, Rights, Authority, Answering, Pipelined, Replies,
-- Sight and Watching: the words of one serving and of one time. The rest is laws, each proved; LineageRow is a worked row of lineages.
pub mod Lineage
pub mod Rights
pub mod Authority
pub mod Answering
pub mod Pipelined
pub mod Replies
pub mod Sight
pub mod Watching
pub mod Keeping
pub mod Laws
pub mod LineageRow
