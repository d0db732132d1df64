-- What waits first on a client's endpoint that is bound was heard: the table behind its frame is the table before it with the answers to it.
use Rattle.std.proofs.Common.{◌≡◌, ℕ, suc, ◌<◌, ◌≤◌, ◌==◌, ◌&&◌, true, is_some, List, [], ◌∷◌, ◌++◌, length, filter_map, reverse, take, Option, Some, None, All, refl, sym, ap, ◌∙◌, subst, arith}
use Rattle.std.specs.List.{cons_option}
use Rattle.std.specs.Option.{option_map_or}
use Rattle.std.specs.Prelude.{option_to_list}
use Rattle.std.proofs.lemmas.Bool.{and_parts, eqb-true}
use Rattle.std.proofs.lemmas.List.{length-reverse, length-take}
use Rattle.std.proofs.lemmas.List.Elements.{All-tail}
use Rattle.fidl_names.specs.HandleNumber.{is_client}
use Rattle.wire_laws.specs.Laws.{SpelledWhereRead}
use Rattle.link_frames.specs.declared.kinds.Side.TheVariants.{ToServers}
use Rattle.link_frames.specs.Frames.{Frame, IsFrame}
use Rattle.conn_rules.specs.Births.{Position}
use Rattle.vfs_journal.specs.Entries.{Sending, Sent}
use Rattle.vfs_journal.specs.Starts.{Bound, Start}
use Rattle.journal_laws.specs.Soundness.{IsStart}
use Rattle.turn_law.specs.Counting.{before, counting, counts_on, last_sendings}
use Rattle.turn_law.specs.Invariant.{IsAsTold, sendings_of}
use Rattle.turn_law.specs.Premises.{HandlesStandOnce}
use Rattle.turn_law.specs.Tables.{SaySame}
use Rattle.turn_law.specs.Told.{is_heard, sending_by, sent_on, table_of}
use Rattle.turn_law.proofs.Counted.{IsCounted, is_counted}
use Rattle.turn_law.proofs.Hearing.{heard_table, heard_where_counted}

-- ---- lengths

fewer_by : {Y : Type 0} (o : Option Y) (ys : List Y) (n : ℕ) → length ys ≤ n → length (cons_option o ys) ≤ suc n
fewer_by None ys n h = omega (arith, h)
fewer_by (Some y) ys n h = omega (arith, h)

fewer : {X Y : Type 0} (h : X → Option Y) (xs : List X) → length (filter_map h xs) ≤ length xs
fewer h [] = omega arith
fewer h (x ∷ xs) = fewer_by (h x) (filter_map h xs) (length xs) (fewer h xs)

pub sendings_few : (start : Start) (n ahead : ℕ) (frames : List Frame) → (length (last_sendings start n ahead frames) ≤ ahead) × (length (last_sendings start n ahead frames) ≤ length (counting start n frames))
sendings_few start n ahead frames =
    let fs = take ahead (counting start n frames) in
    let a = fewer (λ (f : Frame). sending_by f.kind f) (reverse fs) in
    let b = length-reverse fs in
    let c = length-take ahead (counting start n frames) in
    (omega (arith, a, b, c), omega (arith, a, b, c))

pub sendings_long : (ones : List Sent) → length (sendings_of ones) ≡ length ones
sendings_long [] = refl
sendings_long (one ∷ ones) = let rest = sendings_long ones in omega (arith, rest)

-- ---- the head

-- the frame of what waits first, whose place among all is told, and the tables before it and behind it
pub record IsHead (start : Start) (frames : List Frame) (bound : Bound) (one : Sent) (rest : List Sent) (position : Position) (written : List Frame) : Type 0 where
  pub later : List Frame
  pub frame : Frame
  pub earlier : List Frame
  pub split : frames ≡ later ++ frame ∷ earlier
  pub on : frame.endpoint ≡ bound.endpoint
  pub sends : sending_by frame.kind frame ≡ Some one.sending
  pub heard : is_heard start (table_of start earlier) frame ≡ true
  -- before it who is bound has the life, and was told what the journal says
  pub life : (table_of start earlier).life bound.endpoint ≡ Some (bound, position)
  pub told : (table_of start earlier).told bound.endpoint ≡ written
  -- behind it stand the answers, and this is what is said until the next that counts
  pub behind : table_of start (frame ∷ earlier) ≡ sent_on start bound.endpoint one.sending (table_of start earlier)
  pub steady : SaySame bound.endpoint (table_of start (before start bound.endpoint (length rest) frames)) (table_of start (frame ∷ earlier))
  pub waits : sendings_of rest ≡ last_sendings start bound.endpoint (length rest) frames
  pub mid : List Frame
  pub newer : before start bound.endpoint (length rest) frames ≡ mid ++ frame ∷ earlier

pub tail_of : {x y : Sending} {xs ys : List Sending} → x ∷ xs ≡ y ∷ ys → xs ≡ ys
tail_of e = cc

head_of : {x y : Sending} {xs ys : List Sending} → x ∷ xs ≡ y ∷ ys → x ≡ y
head_of e = cc

pub all_right : (xs ys : List Frame) → All (IsFrame ToServers) (xs ++ ys) → All (IsFrame ToServers) ys
all_right [] ys h = h
all_right (x ∷ xs) ys h = all_right xs ys (All-tail (IsFrame ToServers) x (xs ++ ys) h)

behind_heard : (start : Start) (frame : Frame) (earlier : List Frame) (endpoint : ℕ) (sending : Sending) → frame.endpoint ≡ endpoint → sending_by frame.kind frame ≡ Some sending → is_heard start (table_of start earlier) frame ≡ true →
    table_of start (frame ∷ earlier) ≡ sent_on start endpoint sending (table_of start earlier)
behind_heard start frame earlier endpoint sending on sends heard =
    heard_table start frame earlier true heard
    ∙ ap (λ (o : Option Sending). option_map_or (λ (x : Sending). sent_on start frame.endpoint x (table_of start earlier)) o (table_of start earlier)) sends
    ∙ ap (λ (m : ℕ). sent_on start m sending (table_of start earlier)) on

module _ (law : SpelledWhereRead) (start : Start) (frames : List Frame) (bound : Bound) (one : Sent) (rest : List Sent) (position : Position) (written : List Frame) (s : IsStart start) (all : All (IsFrame ToServers) frames)
    (once : HandlesStandOnce frames) (client : is_client bound.endpoint ≡ true) (told : IsAsTold start frames bound (one ∷ rest) position written) where
  more : length rest < length (counting start bound.endpoint frames)
  more =
      let few = (sendings_few start bound.endpoint (suc (length rest)) frames).1 in
      let same = ap length told.waits in
      let long = sendings_long rest in
      omega (arith, few, same, long)

  first : IsCounted start bound.endpoint (length rest) frames
  first = is_counted law start bound.endpoint (length rest) frames s all once client more

  by_sending : (o : Option Sending) → sending_by first.frame.kind first.frame ≡ o → All (IsFrame ToServers) (first.frame ∷ first.earlier) → IsHead start frames bound one rest position written
  by_sending None e valid =
      let few = (sendings_few start bound.endpoint (length rest) frames).0 in
      let same = ap length (told.waits ∙ first.first ∙ ap (λ (o : Option Sending). option_to_list o ++ last_sendings start bound.endpoint (length rest) frames) e) in
      let long = sendings_long rest in
      absurd (omega (arith, few, same, long))
  by_sending (Some sending) e valid =
      let whole : one.sending ∷ sendings_of rest ≡ sending ∷ last_sendings start bound.endpoint (length rest) frames =
      told.waits ∙ first.first ∙ ap (λ (o : Option Sending). option_to_list o ++ last_sendings start bound.endpoint (length rest) frames) e in
      let on = eqb-true first.frame.endpoint bound.endpoint (and_parts (first.frame.endpoint == bound.endpoint) _ first.counts).0 in
      let sends = e ∙ ap Some (sym (head_of whole)) in
      let life = ap (λ (fs : List Frame). (table_of start fs).life bound.endpoint) (sym first.is_before) ∙ told.life in
      let heard =
      heard_where_counted law start first.frame first.earlier s valid
      ∙ ap (λ (m : ℕ). is_some ((table_of start first.earlier).life m) && counts_on start m first.earlier first.frame) on
      ∙ ap (λ (o : Option (Bound × Position)). is_some o && counts_on start bound.endpoint first.earlier first.frame) life
      ∙ first.counts in
      record {
        later = first.later;
        frame = first.frame;
        earlier = first.earlier;
        split = first.split;
        on = on;
        sends = sends;
        heard = heard;
        life = life;
        told = ap (λ (fs : List Frame). (table_of start fs).told bound.endpoint) (sym first.is_before) ∙ told.told;
        behind = behind_heard start first.frame first.earlier bound.endpoint one.sending on sends heard;
        steady = first.steady;
        waits = tail_of whole;
        mid = first.mid;
        newer = first.newer;
      }

  valid : All (IsFrame ToServers) (first.frame ∷ first.earlier)
  valid = all_right first.later (first.frame ∷ first.earlier) (subst (All (IsFrame ToServers)) first.split all)

  pub is_head : IsHead start frames bound one rest position written
  is_head = by_sending (sending_by first.frame.kind first.frame) refl valid
