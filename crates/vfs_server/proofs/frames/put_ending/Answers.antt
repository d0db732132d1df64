-- The last message is the epitaph.
use Rattle.std.proofs.Common.{◌≡◌, [], ◌∷◌, ◌++◌, ℕ, List, subst}
use Rattle.std.specs.Result.{OnOk}
use Rattle.fidl_names.specs.declared.methods.Handle.{Handle}
use Rattle.fidl_names.specs.StatusNumber.{number_of}
use Rattle.fidl_wire.specs.Epitaphs.{epitaph_bytes}
use Rattle.link_frames.specs.Frames.{frame_with, spellings}
use Rattle.vfs_journal.specs.Handles.{numbers_of}
use Rattle.vfs_journal.specs.Outcomes.{close_frame}
use Rattle.link_frames.specs.declared.kinds.FrameKind.TheVariants as kind
use Rattle.vfs_server.proofs.frames.put_ending.Goals as goal

pub returns-clause-written : goal.returns-clause-written
returns-clause-written c =
    subst (λ (handles : List Handle). OnOk c.put_last.result (c.put_last.new.outbox ≡ c.args.outbox.now ++ spellings (frame_with c.args.endpoint kind.Message (numbers_of handles) (epitaph_bytes (number_of c.args.status)) ∷ close_frame c.args.endpoint ∷ []))) c.epitaph.ensures.handles
    (subst (λ (bytes : List ℕ). OnOk c.put_last.result (c.put_last.new.outbox ≡ c.args.outbox.now ++ spellings (frame_with c.args.endpoint kind.Message (numbers_of c.epitaph.new.out.handles) bytes ∷ close_frame c.args.endpoint ∷ []))) c.epitaph.ensures.bytes
    c.put_last.ensures.written)

pub returns-clause-no_memory : goal.returns-clause-no_memory
returns-clause-no_memory c = c.put_last.ensures.no_memory
