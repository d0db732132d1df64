use Rattle.std.proofs.Common.{List, ℕ, ◌≡◌, ◌++◌, sym, ap, ◌∙◌, subst}
use Rattle.link_frames.specs.Views.{frame_of}
use Rattle.vfs_script.specs.Transcripts.{frame_line}
use Rattle.script_session.specs.Telling.{IsWithin, Knows, Scribe}
use Rattle.script_session.proofs.Getting.{kind_behind, message_known, message_within, no_message_id, without_known}
use Rattle.script_session.proofs.scribe.Scribe.gets.Goals as goal

pub returns-in-Message-clause-knows : goal.returns-in-Message-clause-knows
returns-in-Message-clause-knows c = λ past knows.
    let calls : c.self.inside.client ≡ c.args.self.now.calls = ap (λ (s : Scribe). s.calls) c.self.view_is in
    let behind = kind_behind c.self.inside.client c.pass.new.self (frame_of c.args.frame) c.args.frame.kind c.in-Message.is c.pass.ensures.passes in
    message_known past c.self.inside.client c.pass.new.self (frame_of c.args.frame) c.in-Message.is (subst (Knows past) (sym calls) knows) behind

pub returns-in-Message-clause-within : goal.returns-in-Message-clause-within
returns-in-Message-clause-within c = λ low most within.
    let calls : c.self.inside.client ≡ c.args.self.now.calls = ap (λ (s : Scribe). s.calls) c.self.view_is in
    let behind = kind_behind c.self.inside.client c.pass.new.self (frame_of c.args.frame) c.args.frame.kind c.in-Message.is c.pass.ensures.passes in
    message_within low most c.self.inside.client c.pass.new.self (frame_of c.args.frame) (subst (IsWithin low most) (sym calls) within) behind

pub returns-in_default : goal.returns-in_default
returns-in_default c =
    let calls : c.self.inside.client ≡ c.args.self.now.calls = ap (λ (s : Scribe). s.calls) c.self.view_is in
    let text : c.self.inside.text ≡ c.args.self.now.gathered = ap (λ (s : Scribe). s.gathered) c.self.view_is in
    record {
      knows = λ past knows.
          without_known past c.self.inside.client (frame_of c.args.frame) (no_message_id (frame_of c.args.frame) c.in_default.not-Message) (subst (Knows past) (sym calls) knows);
      line = c.in_ok-print_frame.ensures.line ∙ ap (λ l. l ++ frame_line (frame_of c.args.frame)) text;
      no_memory = tt;
      within = λ low most within. subst (IsWithin low most) (sym calls) within;
    }
