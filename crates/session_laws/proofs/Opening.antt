-- An Open that makes a node, or truncates one, has the authority for it; and so each request that changes a tree.
use Rattle.std.proofs.Common.{◌≡◌, ℕ, ◌==◌, ◌&&◌, ◌||◌, ◌⊎◌, Bool, true, false, true≢false, not, nat_lt, if◌then◌else◌, List, [], ◌∷◌, ◌++◌, Option, Some, None, refl, sym, ap, ◌∙◌, subst, inl, inr}
use Rattle.std.specs.List.{count_by, list_any}
use Rattle.std.specs.Option.{option_map}
use Rattle.std.specs.Prelude.{All, IsTrue}
use Rattle.std.proofs.lemmas.List.Elements.{All-append, All-cons, All-nil, All-weaker}
use Rattle.fidl_names.specs.First.{cause_if, first_of}
use Rattle.fidl_names.specs.declared.methods.Method.TheVariants as method
use Rattle.fidl_names.specs.declared.statuses.Status.{Status}
use Rattle.fidl_names.specs.declared.statuses.Status.TheVariants as status
use Rattle.io_flags.specs.Faults.{flag_fault, status_of, makes_twice, is_unsupported, makes_no_kind, marks_no_file, truncates_without_right, mixes_node}
use Rattle.io_flags.specs.declared.faults.FlagFault.{FlagFault}
use Rattle.io_flags.specs.declared.faults.FlagFault.TheVariants as fault
use Rattle.io_flags.specs.declared.names.Flag.TheVariants as flag
use Rattle.io_flags.specs.Grants.{added, asked_rights, execute_set, explicit_rights, granted, granted_kind, granted_to, write_set}
use Rattle.io_flags.specs.Words.{has as has_flag, creates, flags_of, names_protocol}
use Rattle.io_flags.proofs.FlagWords.{no_fault}
use Rattle.io_flags.proofs.GrantLemmas.{within_join_left}
use Rattle.io_messages.specs.Asked.{Asked, method_of}
use Rattle.io_messages.specs.Asked as asks
use Rattle.io_rights.specs.declared.operations.Operation.{Operation}
use Rattle.io_rights.specs.declared.operations.Operation.TheVariants as op
use Rattle.io_rights.specs.Operations.{OperationSet, has, single, join, meet, is_within}
use Rattle.io_rights.proofs.OperationSets.{within_from_each, within_trans}
use Rattle.dirents.specs.Listings.{fits_none, listing}
use Rattle.node_graph.specs.Tree.{stay, fill, name_in}
use Rattle.path_walk.specs.Paths.{names_of}
use Rattle.conn_rules.specs.Acts.{act_of, method_refusals, row_act}
use Rattle.conn_rules.specs.Answers.{Act, binds}
use Rattle.conn_rules.specs.Births.{Birth}
use Rattle.conn_rules.specs.Contexts.{Context}
use Rattle.conn_rules.specs.FileRows.{reading_refusal, is_too_much, is_no_position, seek_sum}
use Rattle.conn_rules.specs.NameRows.{watch_refusals}
use Rattle.conn_rules.specs.Nodes.{kind_here}
use Rattle.conn_rules.specs.Opens.{arrival, arrival_refusals, birth_for, by_walk, entry_refusals, is_full, making, making_refusals, open_act}
use Rattle.conn_rules.specs.Walks.{Walk, arrives, missing, crosses, stops, walk, limit_of, masks_of}
use Rattle.vfs_journal.specs.Entries.{Sent, serves}
use Rattle.vfs_journal.specs.History.{History}
use Rattle.vfs_journal.specs.Past.{event_of}
use Rattle.vfs_journal.specs.Serving.{Moment, context_at}
use Rattle.vfs_journal.specs.Starts.{Start}
use Rattle.journal_laws.proofs.Acts.{first_none, not_refused, unless_holds}
use Rattle.session_laws.specs.Authority.{EachHas, HasAuthority, IsGivenWith}
use Rattle.session_laws.specs.Lineage.{lines_of, lineage_of, masks_along, rights_bound, trail_in, walk_at}
use Rattle.session_laws.specs.Rights.{AreWithinEach, HasAllAsked}
use Rattle.session_laws.proofs.Allowing.{has_right, link_has_target, rename_has_target, stays_or_right}
use Rattle.session_laws.proofs.Opens.{asked_passes}
use Rattle.session_laws.proofs.Requests.{trail_each}
use Rattle.conn_rules.proofs.EveryWalk.{named_in_asked}
use Rattle.session_laws.proofs.Sets.{within_join_right}
use Rattle.session_laws.proofs.Wanted.{HasWanted, walk_wanted}

-- ---- what flags name

modify_asked : (word : ℕ) → creates word ≡ true → is_within (single op.ModifyDirectory) (asked_rights word) ≡ true
unfolding asked_rights
modify_asked word e =
    subst (λ (b : Bool). is_within (single op.ModifyDirectory) (if b then join (flags_of word).rights (single op.ModifyDirectory) else (flags_of word).rights) ≡ true) (sym e)
    (within_join_right (flags_of word).rights (single op.ModifyDirectory))

fifth_passes : (a b c d : Option FlagFault) (x : Bool) (f : FlagFault) (rest : List (Option FlagFault)) → first_of (a ∷ b ∷ c ∷ d ∷ cause_if x f ∷ rest) ≡ None → x ≡ false
fifth_passes (Some g) b c d x f rest e = absurd (cc)
fifth_passes None (Some g) c d x f rest e = absurd (cc)
fifth_passes None None (Some g) d x f rest e = absurd (cc)
fifth_passes None None None (Some g) x f rest e = absurd (cc)
fifth_passes None None None None true f rest e = absurd (cc)
fifth_passes None None None None false f rest e = refl

both_set : (cuts writes : Bool) → (cuts && not writes) ≡ false → cuts ≡ true → writes ≡ true
both_set true true e f = refl
both_set true false e f = absurd (cc)
both_set false writes e f = absurd (cc)

single_write : (set : OperationSet) → set.write_bytes ≡ true → is_within (single op.WriteBytes) set ≡ true
single_write set e = within_from_each (single op.WriteBytes) set each where
  each : (o : Operation) → has (single op.WriteBytes) o ≡ true → has set o ≡ true
  each op.WriteBytes h = e
  each op.Connect h = absurd (cc)
  each op.ReadBytes h = absurd (cc)
  each op.Execute h = absurd (cc)
  each op.GetAttributes h = absurd (cc)
  each op.UpdateAttributes h = absurd (cc)
  each op.Enumerate h = absurd (cc)
  each op.Traverse h = absurd (cc)
  each op.ModifyDirectory h = absurd (cc)

-- who truncates names WRITE_BYTES
write_named : (word : ℕ) → flag_fault word ≡ None → has_flag word flag.FileTruncate ≡ true → is_within (single op.WriteBytes) (explicit_rights word) ≡ true
unfolding explicit_rights
write_named word good cuts =
    let set = flags_of word in
    let passes = fifth_passes (cause_if (makes_twice set) fault.BothCreate) (cause_if (is_unsupported set) fault.Unsupported) (cause_if (makes_no_kind set) fault.CreateKind) (cause_if (marks_no_file set) fault.FileFlags)
    (truncates_without_right set) fault.TruncateRight (cause_if (mixes_node set) fault.NodeAlone ∷ []) (no_fault word good).1 in
    single_write set.rights (both_set set.file_truncate set.rights.write_bytes passes cuts)

flags_pass : (birth : Birth) (word : ℕ) (path : List ℕ) → first_of (entry_refusals birth word path) ≡ None → flag_fault word ≡ None
flags_pass birth word path e = none_of (flag_fault word) (first_passes (option_map status_of (flag_fault word)) _ e) where
  none_of : (o : Option FlagFault) → option_map status_of o ≡ None → o ≡ None
  none_of None e = refl
  none_of (Some f) e = absurd (cc)

  first_passes : (a : Option Status) (rest : List (Option Status)) → first_of (a ∷ rest) ≡ None → a ≡ None
  first_passes None rest e = refl
  first_passes (Some s) rest e = absurd (cc)

-- ---- what who truncates gets

-- what is asked for as a node is asked for as nothing else, and to truncate asks for a file
no_node : (append service node directory file link : Bool) →
    ((append || true) && (list_any (λ (b : Bool). b) (service ∷ node ∷ directory ∷ file ∷ link ∷ []) && not file)) ≡ false →
    (node && not (node && (count_by (λ (b : Bool). b) (service ∷ node ∷ directory ∷ file ∷ link ∷ []) == 1))) ≡ false → node ≡ false
no_node append service false directory file link marks mixes = refl
no_node true true true directory false link marks mixes = absurd (true≢false marks)
no_node true false true directory false link marks mixes = absurd (true≢false marks)
no_node false true true directory false link marks mixes = absurd (true≢false marks)
no_node false false true directory false link marks mixes = absurd (true≢false marks)
no_node append true true true true true marks mixes = absurd (true≢false mixes)
no_node append true true true true false marks mixes = absurd (true≢false mixes)
no_node append true true false true true marks mixes = absurd (true≢false mixes)
no_node append true true false true false marks mixes = absurd (true≢false mixes)
no_node append false true true true true marks mixes = absurd (true≢false mixes)
no_node append false true true true false marks mixes = absurd (true≢false mixes)
no_node append false true false true true marks mixes = absurd (true≢false mixes)
no_node append false true false true false marks mixes = absurd (true≢false mixes)

fourth_passes : (a b c : Option FlagFault) (x : Bool) (f : FlagFault) (rest : List (Option FlagFault)) → first_of (a ∷ b ∷ c ∷ cause_if x f ∷ rest) ≡ None → x ≡ false
fourth_passes a b c x f rest e = not_refused x f rest (first_none c _ (first_none b _ (first_none a _ e)))

no_node_cut : (word : ℕ) → flag_fault word ≡ None → has_flag word flag.FileTruncate ≡ true → (flags_of word).protocol_node ≡ false
no_node_cut word good cuts =
    let set = flags_of word in
    let none = (no_fault word good).1 in
    let marks =
    fourth_passes (cause_if (makes_twice set) fault.BothCreate) (cause_if (is_unsupported set) fault.Unsupported) (cause_if (makes_no_kind set) fault.CreateKind)
    (marks_no_file set) fault.FileFlags _ none in
    let fourth = first_none (cause_if (makes_no_kind set) fault.CreateKind) _ (first_none (cause_if (is_unsupported set) fault.Unsupported) _ (first_none (cause_if (makes_twice set) fault.BothCreate) _ none)) in
    let sixth = first_none (cause_if (truncates_without_right set) fault.TruncateRight) _ (first_none (cause_if (marks_no_file set) fault.FileFlags) _ fourth) in
    no_node set.file_append set.protocol_service set.protocol_node set.protocol_directory set.protocol_file set.protocol_symlink
    (ap (λ (b : Bool). (set.file_append || b) && (names_protocol set && not set.protocol_file)) (sym cuts) ∙ marks)
    (not_refused (mixes_node set) fault.NodeAlone [] sixth)

left_whole : (b : Bool) (some rights : OperationSet) → b ≡ false → is_within some rights ≡ true → is_within some (if b then meet rights (single op.GetAttributes) else rights) ≡ true
left_whole false some rights e h = h
left_whole true some rights e h = absurd (true≢false e)

-- who truncates gets WRITE_BYTES, under whatever limit
write_granted : (word : ℕ) (limit : OperationSet) → flag_fault word ≡ None → has_flag word flag.FileTruncate ≡ true → is_within (single op.WriteBytes) (granted_kind word (granted word limit)) ≡ true
unfolding explicit_rights granted granted_kind
write_granted word limit good cuts =
    let set = flags_of word in
    left_whole set.protocol_node (single op.WriteBytes) (granted_to set limit) (no_node_cut word good cuts)
    (within_trans (single op.WriteBytes) set.rights (granted_to set limit) (write_named word good cuts)
    (within_join_left set.rights (join (added set.inherit_write limit write_set) (added set.inherit_execute limit execute_set))))

-- ---- requests that change nothing

abbrev Stays : Act → Type 0
Stays act = act.change ≡ stay

stays : (context : Context) (request : Asked) → Stays (row_act context request) → (act_of context request).change ≡ stay
unfolding act_of
stays context request row =
    unless_holds Stays (first_of (method_refusals context.birth (method_of request))) context.position (method_of request) (row_act context request) (λ s. refl) (λ e. row)

-- ---- a serving's request

module _ (start : Start) (past : History) (moment : Moment) (sent : Sent) (within : AreWithinEach moment.bound.birth.rights (lineage_of start past sent.endpoint)) where
  trail_has : (word : ℕ) (o : Operation) → ((origin : ℕ) → sent.origin ≡ Some origin → All (HasAllAsked word) ((lines_of start past).onward origin)) → is_within (single o) (asked_rights word) ≡ true → is_within (asked_rights word) moment.bound.birth.rights ≡ true →
      EachHas o (trail_in (lines_of start past) sent)
  trail_has word o over some all' =
      trail_each (λ member. IsTrue (is_within (single o) member)) (lines_of start past) word sent.endpoint moment.bound.birth.rights sent.origin within over
      (λ member own. within_trans (single o) moment.bound.birth.rights member (within_trans (single o) (asked_rights word) moment.bound.birth.rights some all') own)
      (λ member has. within_trans (single o) (asked_rights word) member some has.asked)

  masks_have : (some wanted : OperationSet) (masks : List OperationSet) → is_within some wanted ≡ true → AreWithinEach wanted masks → AreWithinEach some masks
  masks_have some wanted masks h each =
      All-weaker (λ mask. IsTrue (is_within wanted mask)) (λ mask. IsTrue (is_within some mask)) (λ mask has. within_trans some wanted mask h has) masks each

  -- the rights that the serving binds are those that an act says
  abbrev pub BindsOwn : Act → Type 0
  BindsOwn act = (birth : Birth) (announced : Bool) → act.answer ≡ binds birth announced → rights_bound (event_of start past (serves sent)) ≡ birth.rights ∷ []

  module _ (path : List ℕ) (word : ℕ) (attributes : Option ℕ) (object : ℕ) (over : (origin : ℕ) → sent.origin ≡ Some origin → All (HasAllAsked word) ((lines_of start past).onward origin)) where
    abbrev Allowed : Act → Type 0
    Allowed act = BindsOwn act → (act.change ≡ stay) ⊎ HasAuthority start past sent moment (asks.open_path path word attributes object) act.change

    wanted_at : (w : Walk) → walk moment.tree word (names_of path) moment.bound.birth.node ≡ w → HasWanted word w
    wanted_at w is = subst (HasWanted word) is (walk_wanted moment.tree word (names_of path) moment.bound.birth.node)

    truncates : (node : ℕ) (masks : List OperationSet) → walk moment.tree word (names_of path) moment.bound.birth.node ≡ arrives node masks → first_of (entry_refusals moment.bound.birth word path) ≡ None →
        (rights : OperationSet) → rights_bound (event_of start past (serves sent)) ≡ rights ∷ [] → (has_flag word flag.FileTruncate ≡ true → is_within (single op.WriteBytes) rights ≡ true) → (b : Bool) → has_flag word flag.FileTruncate ≡ b →
        ((if b then fill node [] else stay) ≡ stay) ⊎ HasAuthority start past sent moment (asks.open_path path word attributes object) (if b then fill node [] else stay)
    truncates node masks is e rights own got false cuts = inl refl
    truncates node masks is e rights own got true cuts =
        let named = write_named word (flags_pass moment.bound.birth word path e) cuts in
        inr
        (All-append Writes (trail_in (lines_of start past) sent ++ masks_along (walk_at moment path word)) (rights_bound (event_of start past (serves sent)))
        (All-append Writes (trail_in (lines_of start past) sent) (masks_along (walk_at moment path word))
        (trail_has word op.WriteBytes over (within_trans (single op.WriteBytes) (explicit_rights word) (asked_rights word) named (named_in_asked word)) (asked_passes moment.bound.birth word path e))
        (subst (λ (w : Walk). EachHas op.WriteBytes (masks_along w)) (sym is) (masks_have (single op.WriteBytes) (explicit_rights word) masks named (wanted_at (arrives node masks) is))))
        (subst (EachHas op.WriteBytes) (sym own) (All-cons Writes rights [] (got cuts) (All-nil Writes)))) where
          Writes : OperationSet → Type 0
          Writes member = IsTrue (is_within (single op.WriteBytes) member)

    walk_allowed : first_of (entry_refusals moment.bound.birth word path) ≡ None → (w : Walk) → walk moment.tree word (names_of path) moment.bound.birth.node ≡ w → Allowed (by_walk (context_at moment) word w)
    walk_allowed e (arrives node masks) is =
        unless_holds Allowed (first_of (arrival_refusals moment.room word (kind_here moment.tree node))) moment.position method.OpenPath (arrival moment.position word (limit_of moment.bound.birth.rights masks) node (kind_here moment.tree node)) (λ s owns. inl refl)
        (λ f owns.
        truncates node masks is e (granted_kind word (granted word (limit_of moment.bound.birth.rights masks)))
        (owns (birth_for word (limit_of moment.bound.birth.rights masks) node (kind_here moment.tree node)) (has_flag word flag.SendRepresentation) refl)
        (write_granted word (limit_of moment.bound.birth.rights masks) (flags_pass moment.bound.birth word path e)) (has_flag word flag.FileTruncate) refl)
    walk_allowed e (missing directory name masks) is =
        unless_holds Allowed (first_of (making_refusals moment.tree moment.room word (name_in directory name))) moment.position method.OpenPath (making moment.position moment.tree word (limit_of moment.bound.birth.rights masks) (name_in directory name)) (λ s owns. inl refl)
        (λ f owns.
        let some = modify_asked word (has_right (creates word) (not_refused (not (creates word)) status.NotFound _ f)) in
        inr (
          trail_has word op.ModifyDirectory over some (asked_passes moment.bound.birth word path e),
          subst (λ (w : Walk). EachHas op.ModifyDirectory (masks_of w)) (sym is) (masks_have (single op.ModifyDirectory) (asked_rights word) masks some (wanted_at (missing directory name masks) is)),
        ))
    walk_allowed e (crosses mount rest masks) is = λ owns. inl refl
    walk_allowed e (stops status) is = λ owns. inl refl

    open_allowed : Allowed (act_of (context_at moment) (asks.open_path path word attributes object))
    unfolding act_of
    open_allowed =
        unless_holds Allowed (first_of (method_refusals moment.bound.birth (method_of (asks.open_path path word attributes object)))) moment.position (method_of (asks.open_path path word attributes object)) (open_act (context_at moment) path word) (λ s owns. inl refl)
        (λ e.
        unless_holds Allowed (first_of (entry_refusals moment.bound.birth word path)) moment.position method.OpenPath (by_walk (context_at moment) word (walk moment.tree word (names_of path) moment.bound.birth.node)) (λ s owns. inl refl)
        (λ f. walk_allowed f (walk moment.tree word (names_of path) moment.bound.birth.node) refl))

  -- ---- all requests

  own_has : (o : Operation) → is_within (single o) moment.bound.birth.rights ≡ true → EachHas o (lineage_of start past sent.endpoint)
  own_has o h = masks_have (single o) moment.bound.birth.rights (lineage_of start past sent.endpoint) h within

  by_right : {S A : Type 0} (o : Operation) → S ⊎ (is_within (single o) moment.bound.birth.rights ≡ true) → (EachHas o (lineage_of start past sent.endpoint) → A) → S ⊎ A
  by_right o (inl s) then' = inl s
  by_right o (inr h) then' = inr (then' (own_has o h))

  by_both : {S A B C : Type 0} → S ⊎ A → S ⊎ B → (A → B → C) → S ⊎ C
  by_both (inl s) b then' = inl s
  by_both (inr a) (inl s) then' = inl s
  by_both (inr a) (inr b) then' = inr (then' a b)

  abbrev pub OverIn : Asked → Type 0
  OverIn (asks.open_path path word attributes object) = (origin : ℕ) → sent.origin ≡ Some origin → All (HasAllAsked word) ((lines_of start past).onward origin)
  OverIn _ = Unit {0}

  pub request_allowed : (request : Asked) → OverIn request → ((token target : ℕ) → moment.directory token ≡ Some target → IsGivenWith start past token) → BindsOwn (act_of (context_at moment) request) →
      ((act_of (context_at moment) request).change ≡ stay) ⊎ HasAuthority start past sent moment request (act_of (context_at moment) request).change
  request_allowed (asks.open_path path word attributes object) over tokens owns = open_allowed path word attributes object over owns
  request_allowed (asks.write bytes) over tokens owns = by_right op.WriteBytes (stays_or_right (context_at moment) (asks.write bytes) op.WriteBytes refl) (λ h. h)
  request_allowed (asks.write_at bytes offset) over tokens owns = by_right op.WriteBytes (stays_or_right (context_at moment) (asks.write_at bytes offset) op.WriteBytes refl) (λ h. h)
  request_allowed (asks.resize size) over tokens owns = by_right op.WriteBytes (stays_or_right (context_at moment) (asks.resize size) op.WriteBytes refl) (λ h. h)
  request_allowed (asks.unlink name flags) over tokens owns = by_right op.ModifyDirectory (stays_or_right (context_at moment) (asks.unlink name flags) op.ModifyDirectory refl) (λ h. h)
  request_allowed (asks.link src token dst) over tokens owns =
      by_both (stays_or_right (context_at moment) (asks.link src token dst) op.ModifyDirectory refl) (link_has_target (context_at moment) src dst token)
      (λ h t. (own_has op.ModifyDirectory h, tokens token t.0 t.1))
  request_allowed (asks.rename src token dst) over tokens owns =
      by_both (stays_or_right (context_at moment) (asks.rename src token dst) op.ModifyDirectory refl) (rename_has_target (context_at moment) src dst token)
      (λ h t. (own_has op.ModifyDirectory h, tokens token t.0 t.1))
  request_allowed (asks.clone endpoint) over tokens owns =
      inl (stays (context_at moment) (asks.clone endpoint) (unless_holds Stays (first_of (cause_if (is_full moment.room) status.NoResources ∷ [])) moment.position method.Clone _ (λ s. refl) (λ e. refl)))
  request_allowed (asks.read_dirents most) over tokens owns =
      inl (stays (context_at moment) (asks.read_dirents most)
      (unless_holds Stays (first_of (cause_if (is_too_much most) status.InvalidArgs ∷ cause_if (fits_none (listing moment.tree moment.bound.birth.node moment.position.place) most) status.BufferTooSmall ∷ [])) moment.position method.ReadDirents _ (λ s. refl) (λ e. refl)))
  request_allowed (asks.watch mask options watcher) over tokens owns =
      inl (stays (context_at moment) (asks.watch mask options watcher) (unless_holds Stays (first_of (watch_refusals moment.room mask options)) moment.position method.Watch _ (λ s. refl) (λ e. refl)))
  request_allowed (asks.read count) over tokens owns = inl (stays (context_at moment) (asks.read count) (unless_holds Stays (reading_refusal count) moment.position method.Read _ (λ s. refl) (λ e. refl)))
  request_allowed (asks.read_at count offset) over tokens owns = inl (stays (context_at moment) (asks.read_at count offset) (unless_holds Stays (reading_refusal count) moment.position method.ReadAt _ (λ s. refl) (λ e. refl)))
  request_allowed (asks.seek origin offset) over tokens owns =
      inl (stays (context_at moment) (asks.seek origin offset)
      (unless_holds Stays (first_of (cause_if (nat_lt 2 origin) status.InvalidArgs ∷ cause_if (is_no_position (seek_sum (context_at moment) origin offset)) status.OutOfRange ∷ [])) moment.position method.Seek _ (λ s. refl) (λ e. refl)))
  request_allowed request over tokens owns = inl (stays (context_at moment) request refl)
