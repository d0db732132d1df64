use Rattle.std.proofs.Common.{◌++◌, ◌∙◌, ap, List, [], ℕ}
use Rattle.link_frames.specs.Frames.{frame_with, spelling}
use Rattle.link_frames.specs.Gathering.{Gathered}
use Rattle.link_frames.specs.declared.kinds.FrameKind.TheVariants as kind
use Rattle.file_session.proofs.ReadLemmas.{has_memory, is_served, read_is_heard, still_bound}
use Rattle.file_session.proofs.one_file.Connection.read.Goals as goal

pub unreachable-requires : goal.unreachable-requires
unreachable-requires c =
    let file = c.requires.bound.0 in
    let bound = c.requires.bound.1 in
    let has = has_memory file c.args.self.now.connection c.serve-served.new.self c.args.self.now.graph c.serve-served.new.graph c.args.count c.args.txid c.serve-served.result c.serve-served.new.out bound c.serve-served.ensures.memory in
    let is = is_served file c.args.self.now.connection c.serve-served.new.self c.args.self.now.graph c.serve-served.new.graph c.args.count c.args.txid c.serve-served.result c.serve-served.new.out bound c.serve-served.ensures.serves has in
    c.in_default.not-Reply is.answer.0

pub returns-clause-hears : goal.returns-clause-hears
returns-clause-hears c file bound =
    let held = c.args.room.now.bytes in
    let has = has_memory file c.args.self.now.connection c.serve-served.new.self c.args.self.now.graph c.serve-served.new.graph c.args.count c.args.txid c.serve-served.result c.serve-served.new.out bound c.serve-served.ensures.memory in
    let is = is_served file c.args.self.now.connection c.serve-served.new.self c.args.self.now.graph c.serve-served.new.graph c.args.count c.args.txid c.serve-served.result c.serve-served.new.out bound c.serve-served.ensures.serves has in
    read_is_heard file c.args.self.now.connection c.serve-served.new.self c.args.self.now.graph c.serve-served.new.graph c.args.count c.args.txid c.serve-served.result c.serve-served.new.out bound c.args.self.now.live _ _ is
    (ap (λ (r : Gathered). r.bytes) c.put_frame.ensures.written ∙ ap (λ (b : List ℕ). held ++ spelling (frame_with 1 kind.Message [] b)) c.as_bytes.ensures.bytes)

pub returns-clause-bound : goal.returns-clause-bound
returns-clause-bound c file bound =
    let has = has_memory file c.args.self.now.connection c.serve-served.new.self c.args.self.now.graph c.serve-served.new.graph c.args.count c.args.txid c.serve-served.result c.serve-served.new.out bound c.serve-served.ensures.memory in
    let is = is_served file c.args.self.now.connection c.serve-served.new.self c.args.self.now.graph c.serve-served.new.graph c.args.count c.args.txid c.serve-served.result c.serve-served.new.out bound c.serve-served.ensures.serves has in
    still_bound file c.args.self.now.connection c.serve-served.new.self c.args.self.now.graph c.serve-served.new.graph c.args.count c.args.txid c.serve-served.result c.serve-served.new.out bound is c.serve-served.ensures.holds
