-- What an answer touches: the endpoint that it is given on, and what the message carries.
use Rattle.std.proofs.Common.{◌≡◌, ℕ, ◌<◌, ◌==◌, ◌||◌, ◌⊎◌, Bool, true, false, nat_lt, List, [], ◌∷◌, Option, Some, None, Ok, Err, All, refl, sym, subst, inl, inr, arith, if◌then◌else◌}
use Rattle.std.specs.Option.{option_map_or}
use Rattle.std.proofs.lemmas.Bool.{and_parts, eq-eqb, eqb-true, false_from_ne_true, ltb-true, or_left, or_right}
use Rattle.std.proofs.lemmas.List.Elements.{All-cons, All-nil}
use Rattle.fidl_names.specs.HandleNumber.{end_of_mount, is_client}
use Rattle.wire_laws.specs.Laws.{SpelledWhereRead}
use Rattle.link_frames.specs.Frames.{Frame}
use Rattle.link_admission.specs.Numbering.{among}
use Rattle.io_messages.specs.Asked.{Asked}
use Rattle.io_messages.specs.Asked as asks
use Rattle.io_messages.specs.declared.protocols.Protocol.{Protocol}
use Rattle.io_messages.specs.declared.protocols.Protocol.TheVariants as protocol
use Rattle.io_messages.specs.declared.requests.RequestFault.{RequestFault}
use Rattle.io_messages.specs.declared.requests.RequestFault.TheVariants.{Malformed, UnknownStrict, UnknownOneWay, UnknownTwoWay}
use Rattle.node_graph.specs.Tree.{Tree}
use Rattle.conn_rules.specs.declared.births.Room.{Room}
use Rattle.conn_rules.specs.Answers.{Act, Answer, binds, closes, ends, forwards, hangs_up, only, refuses, replies, silent, watches}
use Rattle.vfs_journal.specs.Deaths.{is_settled}
use Rattle.vfs_journal.specs.Entries.{Sending, hang_up, handles_of, message}
use Rattle.vfs_journal.specs.Outcomes.{Asker, Forwarded, Outcome, outcome_with}
use Rattle.vfs_journal.specs.Serving.{Moment, Read, asker_of, context_at, fault_answer, fault_txid, object_of, outcome_of_message, outcome_of_read, outcome_of_sending, read_by, request_act}
use Rattle.vfs_journal.specs.Starts.{Bound}
use Rattle.journal_laws.proofs.Acts.{IsAnswer, IsClose, IsReply, IsToken, act_answers}
use Rattle.journal_laws.proofs.Requests.{Carries, carries}

-- an endpoint is the one that was answered on, or was carried
abbrev pub IsTouched : ℕ → List ℕ → ℕ → Type 0
IsTouched served handles n = (n ≡ served) ⊎ (among n handles ≡ true)

pub record StaysWithin (served : ℕ) (handles : List ℕ) (o : Outcome) : Type 0 where
  pub ends : (n : ℕ) → among n o.ends ≡ true → IsTouched served handles n
  pub bound : (bound : Bound) → o.bound ≡ Some bound → among bound.endpoint handles ≡ true
  pub forward : (forward : Forwarded) → o.forward ≡ Some forward → (among forward.object handles ≡ true) × (is_client forward.endpoint ≡ false)
  pub frames : All (λ frame. IsTouched served handles frame.endpoint) o.frames
  pub alone : All (λ frame. (frame.endpoint ≡ served) ⊎ (is_settled o frame.endpoint ≡ true)) o.frames
  pub onward : (forward : Forwarded) → o.forward ≡ Some forward → (o.frames ≡ []) × (o.ends ≡ []) × (o.bound ≡ None)

pub among_one : (n m : ℕ) → among n (m ∷ []) ≡ true → n ≡ m
among_one n m h = by_test (m == n) refl h where
  by_test : (b : Bool) → (m == n) ≡ b → (b || false) ≡ true → n ≡ m
  by_test true is h = sym (eqb-true m n is)
  by_test false is h = absurd (cc)

end_is_no_client : (mount : ℕ) → is_client (end_of_mount mount) ≡ false
end_is_no_client mount =
    false_from_ne_true (is_client (end_of_mount mount))
    (λ h. let low : end_of_mount mount < 0x40000000 = ltb-true (end_of_mount mount) 0x40000000 (and_parts (nat_lt 0 (end_of_mount mount)) (nat_lt (end_of_mount mount) 0x40000000) h).1 in omega arith)

bound_same : {x y : Bound} → Some x ≡ Some y → x ≡ y
bound_same e = cc

forward_same : {x y : Forwarded} → Some x ≡ Some y → x ≡ y
forward_same e = cc

-- ---- by the answer

abbrev pub UsesObject : Answer → Type 0
UsesObject (binds birth announced) = Unit {0}
UsesObject (watches mask) = Unit {0}
UsesObject (forwards mount flags rest) = Unit {0}
UsesObject (refuses status) = Unit {0}
UsesObject _ = ⊥

abbrev Each : ℕ → List ℕ → List Frame → Type 0
Each served handles frames = All (λ frame. IsTouched served handles frame.endpoint) frames

one_frame : (served : ℕ) (handles : List ℕ) (frame : Frame) → IsTouched served handles frame.endpoint → Each served handles (frame ∷ [])
one_frame served handles frame h = All-cons (λ f. IsTouched served handles f.endpoint) frame [] h (All-nil (λ f. IsTouched served handles f.endpoint))

two_frames : (served : ℕ) (handles : List ℕ) (frame other : Frame) → IsTouched served handles frame.endpoint → IsTouched served handles other.endpoint → Each served handles (frame ∷ other ∷ [])
two_frames served handles frame other h g = All-cons (λ f. IsTouched served handles f.endpoint) frame (other ∷ []) h (one_frame served handles other g)

-- what an answer binds or ends is settled
bound_settled : (o : Outcome) (n : ℕ) → option_map_or (λ bound. bound.endpoint == n) o.bound false ≡ true → is_settled o n ≡ true
bound_settled o n h = or_left (option_map_or (λ bound. bound.endpoint == n) o.bound false) _ h

ended_settled : (o : Outcome) (n : ℕ) → among n o.ends ≡ true → is_settled o n ≡ true
ended_settled o n h = or_right (option_map_or (λ bound. bound.endpoint == n) o.bound false) _ (or_left (among n o.ends) _ h)

abbrev Lone : ℕ → Outcome → Frame → Type 0
Lone served o frame = (frame.endpoint ≡ served) ⊎ (is_settled o frame.endpoint ≡ true)

one_lone : (served : ℕ) (o : Outcome) (frame : Frame) → Lone served o frame → All (Lone served o) (frame ∷ [])
one_lone served o frame h = All-cons (Lone served o) frame [] h (All-nil (Lone served o))

two_lone : (served : ℕ) (o : Outcome) (frame other : Frame) → Lone served o frame → Lone served o other → All (Lone served o) (frame ∷ other ∷ [])
two_lone served o frame other h g = All-cons (Lone served o) frame (other ∷ []) h (one_lone served o other g)

announced_lone : (served : ℕ) (o : Outcome) (frame : Frame) (b : Bool) → Lone served o frame → All (Lone served o) (if b then frame ∷ [] else [])
announced_lone served o frame true h = one_lone served o frame h
announced_lone served o frame false h = All-nil (Lone served o)

one_among : (n : ℕ) → among n (n ∷ []) ≡ true
one_among n = or_left (n == n) false (eq-eqb n n refl)

announced_frames : (asker : Asker) (handles : List ℕ) (frame : Frame) (b : Bool) → IsTouched asker.endpoint handles frame.endpoint → Each asker.endpoint handles (if b then frame ∷ [] else [])
announced_frames asker handles frame true h = one_frame asker.endpoint handles frame h
announced_frames asker handles frame false h = All-nil (λ f. IsTouched asker.endpoint handles f.endpoint)

answer_within : (asker : Asker) (act : Act) (handles : List ℕ) → (UsesObject act.answer → among asker.object handles ≡ true) → StaysWithin asker.endpoint handles (outcome_with asker act)
answer_within asker act handles carried = by_answer act.answer carried where
  by : Answer → Outcome
  by answer = outcome_with asker (record { answer = answer; position = act.position; change = act.change; told = act.told })

  by_answer : (answer : Answer) → (UsesObject answer → among asker.object handles ≡ true) → StaysWithin asker.endpoint handles (outcome_with asker (record { answer = answer; position = act.position; change = act.change; told = act.told }))
  by_answer (replies a) c = record { ends = λ n h. absurd (cc); bound = λ b e. absurd (cc); forward = λ f e. absurd (cc); frames = one_frame asker.endpoint handles _ (inl refl); alone = one_lone asker.endpoint (by (replies a)) _ (inl refl); onward = λ f e. absurd (cc) }
  by_answer closes c = record { ends = λ n h. inl (among_one n asker.endpoint h); bound = λ b e. absurd (cc); forward = λ f e. absurd (cc); frames = two_frames asker.endpoint handles _ _ (inl refl) (inl refl); alone = two_lone asker.endpoint (by closes) _ _ (inl refl) (inl refl); onward = λ f e. absurd (cc) }
  by_answer (binds birth announced) c = record {
    ends = λ n h. absurd (cc);
    bound = λ b e. subst (λ (x : Bound). among x.endpoint handles ≡ true) (bound_same e) (c tt);
    forward = λ f e. absurd (cc);
    frames = announced_frames asker handles _ announced (inr (c tt));
    alone = announced_lone asker.endpoint (by (binds birth announced)) _ announced (inr (bound_settled (by (binds birth announced)) asker.object (eq-eqb asker.object asker.object refl)));
    onward = λ f e. absurd (cc);
  }
  by_answer (watches mask) c = record {
    ends = λ n h. absurd (cc);
    bound = λ b e. subst (λ (x : Bound). among x.endpoint handles ≡ true) (bound_same e) (c tt);
    forward = λ f e. absurd (cc);
    frames = one_frame asker.endpoint handles _ (inl refl);
    alone = one_lone asker.endpoint (by (watches mask)) _ (inl refl);
    onward = λ f e. absurd (cc);
  }
  by_answer (forwards mount flags rest) c = record {
    ends = λ n h. absurd (cc);
    bound = λ b e. absurd (cc);
    forward = λ f e. subst (λ (x : Forwarded). (among x.object handles ≡ true) × (is_client x.endpoint ≡ false)) (forward_same e) (c tt, end_is_no_client mount);
    frames = All-nil (λ f. IsTouched asker.endpoint handles f.endpoint);
    alone = All-nil (Lone asker.endpoint (by (forwards mount flags rest)));
    onward = λ f e. (refl, refl, refl);
  }
  by_answer (refuses status) c = record {
    ends = λ n h. inr (subst (λ (m : ℕ). among m handles ≡ true) (sym (among_one n asker.object h)) (c tt));
    bound = λ b e. absurd (cc);
    forward = λ f e. absurd (cc);
    frames = two_frames asker.endpoint handles _ _ (inr (c tt)) (inr (c tt));
    alone =
        two_lone asker.endpoint (by (refuses status)) _ _ (inr (ended_settled (by (refuses status)) asker.object (one_among asker.object)))
        (inr (ended_settled (by (refuses status)) asker.object (one_among asker.object)));
    onward = λ f e. absurd (cc);
  }
  by_answer (ends status) c = record { ends = λ n h. inl (among_one n asker.endpoint h); bound = λ b e. absurd (cc); forward = λ f e. absurd (cc); frames = two_frames asker.endpoint handles _ _ (inl refl) (inl refl); alone = two_lone asker.endpoint (by (ends status)) _ _ (inl refl) (inl refl); onward = λ f e. absurd (cc) }
  by_answer hangs_up c = record { ends = λ n h. inl (among_one n asker.endpoint h); bound = λ b e. absurd (cc); forward = λ f e. absurd (cc); frames = All-nil (λ f. IsTouched asker.endpoint handles f.endpoint); alone = All-nil (Lone asker.endpoint (by hangs_up)); onward = λ f e. absurd (cc) }
  by_answer silent c = record { ends = λ n h. absurd (cc); bound = λ b e. absurd (cc); forward = λ f e. absurd (cc); frames = All-nil (λ f. IsTouched asker.endpoint handles f.endpoint); alone = All-nil (Lone asker.endpoint (by silent)); onward = λ f e. absurd (cc) }

-- ---- by the request

reply_own : (answer : Answer) → IsReply answer → UsesObject answer → ⊥
reply_own (replies a) h u = u
reply_own (binds birth announced) h u = h
reply_own (watches mask) h u = h
reply_own (forwards mount flags rest) h u = h
reply_own (refuses status) h u = h
reply_own closes h u = u
reply_own (ends status) h u = u
reply_own hangs_up h u = u
reply_own silent h u = u

close_own : (answer : Answer) → IsClose answer → UsesObject answer → ⊥
close_own (replies a) h u = u
close_own (binds birth announced) h u = h
close_own (watches mask) h u = h
close_own (forwards mount flags rest) h u = h
close_own (refuses status) h u = h
close_own closes h u = u
close_own (ends status) h u = u
close_own hangs_up h u = u
close_own silent h u = u

token_own : (next : Option ℕ) (answer : Answer) → IsToken next answer → UsesObject answer → ⊥
token_own next (replies a) h u = u
token_own next (binds birth announced) h u = h
token_own next (watches mask) h u = h
token_own next (forwards mount flags rest) h u = h
token_own next (refuses status) h u = h
token_own next closes h u = u
token_own next (ends status) h u = u
token_own next hangs_up h u = u
token_own next silent h u = u

-- where an answer goes to the object of a request, the request carries it
object_carried : (room : Room) (tree : Tree) (request : Asked) (answer : Answer) (handles : List ℕ) → IsAnswer room tree request answer → Carries request handles → UsesObject answer → among (object_of request) handles ≡ true
object_carried room tree (asks.clone endpoint) answer handles h c u = c.here
object_carried room tree (asks.open_path path flags given object) answer handles h c u = c.here
object_carried room tree (asks.watch mask options watcher) answer handles h c u = c.here
object_carried room tree asks.close answer handles h c u = absurd (close_own answer h u)
object_carried room tree asks.get_token answer handles h c u = absurd (token_own room.token answer h u)
object_carried room tree _ answer handles h c u = absurd (reply_own answer h u)

fault_own : (fault : RequestFault) → UsesObject (fault_answer fault) → ⊥
fault_own (Malformed fault) u = u
fault_own UnknownStrict u = u
fault_own UnknownOneWay u = u
fault_own (UnknownTwoWay txid ordinal) u = u

read_within : SpelledWhereRead → (moment : Moment) (p : Protocol) (bytes handles : List ℕ) (r : Read) → read_by p bytes handles ≡ r → StaysWithin moment.bound.endpoint handles (outcome_of_read moment r)
read_within law moment p bytes handles (Ok found) e =
    answer_within (asker_of moment.bound found.0 (object_of found.1)) (request_act moment found.1) handles
    (object_carried moment.room moment.tree found.1 (request_act moment found.1).answer handles (act_answers (context_at moment) found.1).0 (carries law p bytes handles found.0 found.1 e))
read_within law moment p bytes handles (Err fault) e =
    answer_within (asker_of moment.bound (fault_txid fault) 0) (only moment.position (fault_answer fault)) handles (λ u. absurd (fault_own fault u))

message_within : SpelledWhereRead → (moment : Moment) (bytes handles : List ℕ) (p : Protocol) → StaysWithin moment.bound.endpoint handles (outcome_of_message moment p bytes handles)
message_within law moment bytes handles protocol.Watcher = answer_within (asker_of moment.bound 0 0) (only moment.position silent) handles (λ u. absurd u)
message_within law moment bytes handles protocol.Directory = read_within law moment protocol.Directory bytes handles _ refl
message_within law moment bytes handles protocol.File = read_within law moment protocol.File bytes handles _ refl
message_within law moment bytes handles protocol.Node = read_within law moment protocol.Node bytes handles _ refl
message_within law moment bytes handles protocol.Echo = read_within law moment protocol.Echo bytes handles _ refl

pub sending_within : SpelledWhereRead → (moment : Moment) (sending : Sending) → StaysWithin moment.bound.endpoint (handles_of sending) (outcome_of_sending moment sending)
unfolding outcome_of_sending
sending_within law moment (message bytes handles) = message_within law moment bytes handles moment.bound.birth.protocol
sending_within law moment hang_up = answer_within (asker_of moment.bound 0 0) (only moment.position hangs_up) [] (λ u. absurd u)
