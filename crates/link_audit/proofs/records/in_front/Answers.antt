use Rattle.std.proofs.Common.{rules}
use Rattle.link_frames.specs.declared.kinds.Side.TheVariants as side
use Rattle.link_frames.specs.Views.{frame_of}
use Rattle.link_audit.proofs.Lent.{no_in_kind, no_in_read, none_read}
use Rattle.link_audit.proofs.records.in_front.Goals as goal

pub returns-in_default : goal.returns-in_default
returns-in_default c = record {
  shown = tt;
  none = λ is. no_in_read c.args.body.now (none_read side.ToServers c.args.body.now c.frame_at.result c.frame_at.ensures c.in_default.not-Whole);
}

pub returns-then-not-is_sending-clause-none : goal.returns-then-not-is_sending-clause-none
returns-then-not-is_sending-clause-none c = λ is.
    no_in_kind c.args.body.now (frame_of c.in-Whole.frame) c.in-Whole.size c.in-Whole.ensures (search rules)
