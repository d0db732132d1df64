-- What comes of the graph's answers, and which changes take memory.
use Rattle.std.proofs.Common.{◌≡◌, ℕ, zero, suc, ◌+◌, ◌-◌, ◌<◌, ◌≤◌, min, Bool, true, false, nat_lt, List, [], ◌∷◌, ◌++◌, length, take, drop, replicate, Option, Some, None, Result, Ok, Err, IfErr, OnOk, OnErr, refl, sym, ap, subst, arith, length-append}
use Rattle.std.proofs.lemmas.Bool.{le-ltb}
use Rattle.std.proofs.lemmas.List.{length-take, length-replicate}
use Rattle.fidl_names.specs.declared.limits.TheConstants as limit
use Rattle.fidl_names.specs.declared.statuses.Status.{Status}
use Rattle.fidl_names.specs.declared.statuses.Status.TheVariants as status
use Rattle.fidl_names.specs.First.{cause_if, first_of}
use Rattle.node_graph.specs.declared.faults.GraphFault.{GraphFault}
use Rattle.node_graph.specs.declared.faults.GraphFault.TheVariants as fault
use Rattle.node_graph.specs.Graph.{Answers, Kept, Leads, resize_refusal, resized, write_change, write_refusal}
use Rattle.node_graph.specs.Tree.{Change, fill}
use Rattle.conn_rules.specs.FileRows.{writing_refusal}
use Rattle.conn_rules.specs.Refusals.{as_status}
use Rattle.conn_rules.specs.Served.{takes_memory}
use Rattle.file_conn.specs.Filling.{Comes, filled_as}

-- the one refusal is passed on, and what isn't refused takes memory where that is wanting
comes_as : {T : Type 0} (big : Bool) (answer : Result T GraphFault) (change : Change) (before after : Kept) → Answers answer (cause_if big fault.FileBig) →
    OnErr answer (after ≡ before) → OnOk answer (Leads before after change) → (answer ≡ Err fault.NoMemory → takes_memory change ≡ true) →
    Comes (filled_as answer) (as_status (cause_if big fault.FileBig)) change before after
comes_as true (Ok done) change before after is same leads takes = cc
comes_as {T = T} true (Err given) change before after is same leads takes =
    let e : given ≡ fault.FileBig = cc in
    subst (λ f. Comes (filled_as {T = T} (Err f)) (Some status.FileBig) change before after) (sym e) (refl, (λ wrong. cc), same)
comes_as false (Ok done) change before after is same leads takes = (refl, leads)
comes_as {T = T} false (Err given) change before after is same leads takes =
    subst (λ f. Comes (filled_as {T = T} (Err f)) None change before after) (sym is) (refl, takes (ap (λ f. Err f) is), same)

takes_some : (number : ℕ) (bytes : List ℕ) → 0 < length bytes → takes_memory (fill number bytes) ≡ true
takes_some number [] some = absurd (omega (arith, some))
takes_some number (byte ∷ bytes) some = refl

takes_behind : (number : ℕ) (front : List ℕ) (byte : ℕ) (bytes rest : List ℕ) → takes_memory (fill number ((front ++ (byte ∷ bytes)) ++ rest)) ≡ true
takes_behind number [] byte bytes rest = refl
takes_behind number (first ∷ front) byte bytes rest = refl

first_alone : (x : Option Status) → first_of (x ∷ []) ≡ x
first_alone None = refl
first_alone (Some status) = refl

pub comes_of_write : {T : Type 0} (answer : Result T GraphFault) (number offset : ℕ) (old bytes : List ℕ) (before after : Kept) → Answers answer (write_refusal offset bytes) →
    OnErr answer (after ≡ before) → OnOk answer (Leads before after (write_change number old offset bytes)) → 0 < length bytes → length bytes ≤ limit.MAX_CHUNK →
    Comes (filled_as answer) (writing_refusal offset bytes) (write_change number old offset bytes) before after
comes_of_write answer number offset old [] before after is same leads some few = absurd (omega (arith, some))
comes_of_write answer number offset old (byte ∷ bytes) before after is same leads some few =
    rw (le-ltb limit.MAX_CHUNK (length (byte ∷ bytes)) few)
    (rw (first_alone (as_status (write_refusal offset (byte ∷ bytes))))
    (comes_as (nat_lt limit.MAX_FILE (offset + length (byte ∷ bytes))) answer (write_change number old offset (byte ∷ bytes)) before after is same leads
    (λ none. takes_behind number (resized old offset) byte bytes (drop (offset + length (byte ∷ bytes)) old))))

length_resized : (bytes : List ℕ) (size : ℕ) → length (resized bytes size) ≡ min size (length bytes) + (size - length bytes)
length_resized bytes size = rw (length-append (take size bytes) (replicate (size - length bytes) 0)) (rw (length-take size bytes) (rw (length-replicate {A = ℕ} (size - length bytes) 0) refl))

takes_resized : {T : Type 0} (answer : Result T GraphFault) (number size : ℕ) (old : List ℕ) → (size ≤ length old → IfErr answer (λ given. given ≡ fault.FileBig)) →
    answer ≡ Err fault.NoMemory → takes_memory (fill number (resized old size)) ≡ true
takes_resized {T = T} answer number zero old shorter none =
    let wrong : fault.NoMemory ≡ fault.FileBig = subst (λ r. IfErr {T = T} r (λ given. given ≡ fault.FileBig)) none (shorter (omega arith)) in
    cc
takes_resized answer number (suc size) old shorter none = takes_some number (resized old (suc size)) (omega (arith, length_resized old (suc size)))

pub comes_of_resize : {T : Type 0} (answer : Result T GraphFault) (number size : ℕ) (old : List ℕ) (before after : Kept) → Answers answer (resize_refusal size) →
    OnErr answer (after ≡ before) → OnOk answer (Leads before after (fill number (resized old size))) → (size ≤ length old → IfErr answer (λ given. given ≡ fault.FileBig)) →
    Comes (filled_as answer) (as_status (resize_refusal size)) (fill number (resized old size)) before after
comes_of_resize answer number size old before after is same leads shorter =
    comes_as (nat_lt limit.MAX_FILE size) answer (fill number (resized old size)) before after is same leads (takes_resized answer number size old shorter)
