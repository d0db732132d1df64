-- What the reader of records finds.
use Rattle.std.proofs.Common.{◌≡◌, ◌≤◌, ℕ, false, List, ◌∷◌, ◌++◌, length, drop, refl, sym, ap, ◌∙◌, arith}
use Rattle.std.proofs.lemmas.List.{take-append-drop}
use Rattle.link_frames.specs.declared.frame.Reading.{Reading}
use Rattle.link_frames.specs.declared.frame.Reading.TheVariants as reading
use Rattle.link_frames.specs.declared.kinds.Side.{Side}
use Rattle.link_frames.specs.declared.kinds.Side.TheVariants as side
use Rattle.link_frames.specs.Frames.{Frame}
use Rattle.link_frames.specs.Numbers.{word_in}
use Rattle.link_frames.specs.Views.{IsWholeFront, Reads}
use Rattle.link_frames.proofs.Spelled.{spelling-injective}
use Rattle.link_frames.proofs.Streams.{NoFront, bad_no_front, partial_no_front}
use Rattle.link_frames.proofs.Words.{word_in-lt, word_of-word_in}
use Rattle.fidl_names.specs.Numbers.{AreBytes}
use Rattle.link_audit.specs.Records.{HasNoRecord, is_answering, is_sending}
use Rattle.link_audit.specs.Fronts.{Shows}
use Rattle.link_audit.specs.declared.records.Record.TheVariants as lent
use Rattle.link_audit.proofs.Tags.{no_in, no_out}

-- an endpoint that was served
pub shows_served : (body : List ℕ) → AreBytes body → 4 ≤ length body → Shows (1 ∷ body) (record { one = lent.Served (word_in body); size = 5 })
shows_served body are long = record {
  stands = record {
    sound = word_in-lt body are;
    split = ap (λ b. 1 ∷ b) (sym (take-append-drop 4 body) ∙ ap (λ b. b ++ drop 4 body) (sym (word_of-word_in body are long)));
    last = λ e. cc;
  };
  spelled = tt;
  some = omega arith;
  within = omega (arith, long);
}

-- ---- none

-- where no whole frame is read none stands in front
pub none_read : (s : Side) (body : List ℕ) (read : Reading) → Reads s body read → ((view : _) (n : ℕ) → read ≡ reading.Whole view n → ⊥) → NoFront s body
none_read s body (reading.Whole view n) reads other = absurd (other view n refl)
none_read s body reading.NotWhole reads other = partial_no_front s body reads
none_read s body (reading.Bad why) reads other = bad_no_front s body why reads

pub no_in_read : (body : List ℕ) → NoFront side.ToServers body → HasNoRecord (0 ∷ body)
no_in_read body none = no_in body (λ f more is sends e. none f more is e)

pub no_out_read : (body : List ℕ) → NoFront side.Any body → HasNoRecord (2 ∷ body)
no_out_read body none = no_out body (λ f more is answers e. none f more is e)

-- nor where a frame of another kind is read
pub no_in_kind : (body : List ℕ) (g : Frame) (n : ℕ) → IsWholeFront side.ToServers body g n → is_sending g.kind ≡ false → HasNoRecord (0 ∷ body)
no_in_kind body g n whole other =
    no_in body (λ f more is sends e.
    let same = spelling-injective side.ToServers f g more (drop n body) is whole.sound (sym e ∙ whole.split) in
    let kinds : is_sending f.kind ≡ is_sending g.kind = ap (λ (h : Frame). is_sending h.kind) same.0 in
    cc)

pub no_out_kind : (body : List ℕ) (g : Frame) (n : ℕ) → IsWholeFront side.Any body g n → is_answering g.kind ≡ false → HasNoRecord (2 ∷ body)
no_out_kind body g n whole other =
    no_out body (λ f more is answers e.
    let same = spelling-injective side.Any f g more (drop n body) is whole.sound (sym e ∙ whole.split) in
    let kinds : is_answering f.kind ≡ is_answering g.kind = ap (λ (h : Frame). is_answering h.kind) same.0 in
    cc)
