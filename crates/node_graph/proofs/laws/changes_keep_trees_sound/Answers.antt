use Rattle.node_graph.proofs.Soundness.{bare_sound, row_sound, written_sound, resized_sound}
use Rattle.node_graph.proofs.SoundNames.{cut_sound, link_sound, rename_sound}
use Rattle.node_graph.proofs.laws.changes_keep_trees_sound.Goals as goal

pub returns-clause-begun : goal.returns-clause-begun
returns-clause-begun c = bare_sound

pub returns-clause-made : goal.returns-clause-made
returns-clause-made c = row_sound

pub returns-clause-written : goal.returns-clause-written
returns-clause-written c = written_sound

pub returns-clause-resized : goal.returns-clause-resized
returns-clause-resized c = resized_sound

pub returns-clause-unlinked : goal.returns-clause-unlinked
returns-clause-unlinked c = cut_sound

pub returns-clause-linked : goal.returns-clause-linked
returns-clause-linked c = link_sound

pub returns-clause-renamed : goal.returns-clause-renamed
returns-clause-renamed c = rename_sound
