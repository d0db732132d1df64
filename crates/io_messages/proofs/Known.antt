-- The method of a protocol with an ordinal, and that of a request that was read.
use Rattle.std.proofs.Common.{◌≡◌, ℕ, ◌&&◌, ◌⊎◌, inl, inr, Bool, true, false, cond, nat_eq, find, List, [], ◌∷◌, Option, Some, None, option_map, IfSome, IsNone, refl, sym, ap, ◌∙◌, arith}
use Rattle.std.proofs.lemmas.Bool.Decides.{nat_tests}
use Rattle.fidl_names.specs.declared.methods.Handle.{Handle}
use Rattle.fidl_names.specs.declared.methods.Method.{Method}
use Rattle.fidl_names.specs.declared.methods.Method.TheVariants as method
use Rattle.fidl_wire.specs.Layout.{Item, a_number}
use Rattle.fidl_wire.specs.Names.{method_ordinal, MethodsHaveTheirOwn}
use Rattle.io_messages.specs.Asked.{Asked, method_of}
use Rattle.io_messages.specs.declared.protocols.Protocol.{Protocol}
use Rattle.io_messages.specs.Protocols.{has_method, all_methods}
use Rattle.io_messages.specs.Requests.{IsAsked, asked_from, method_in}
use Rattle.io_messages.specs.Members.{number_of}
use Rattle.io_messages.specs.Replies.{method_with}

abbrev Among : Method → List Method → Type 0
Among m [] = ⊥
Among m (n ∷ ns) = (m ≡ n) ⊎ Among m ns

among : (m : Method) → Among m all_methods
among method.Clone = inl refl
among method.Close = inr (inl refl)
among method.Query = inr (inr (inl refl))
among method.GetAttributes = inr (inr (inr (inl refl)))
among method.Sync = inr (inr (inr (inr (inl refl))))
among method.OpenPath = inr (inr (inr (inr (inr (inl refl)))))
among method.ReadDirents = inr (inr (inr (inr (inr (inr (inl refl))))))
among method.Rewind = inr (inr (inr (inr (inr (inr (inr (inl refl)))))))
among method.GetToken = inr (inr (inr (inr (inr (inr (inr (inr (inl refl))))))))
among method.Rename = inr (inr (inr (inr (inr (inr (inr (inr (inr (inl refl)))))))))
among method.Link = inr (inr (inr (inr (inr (inr (inr (inr (inr (inr (inl refl))))))))))
among method.Unlink = inr (inr (inr (inr (inr (inr (inr (inr (inr (inr (inr (inl refl)))))))))))
among method.Watch = inr (inr (inr (inr (inr (inr (inr (inr (inr (inr (inr (inr (inl refl))))))))))))
among method.Read = inr (inr (inr (inr (inr (inr (inr (inr (inr (inr (inr (inr (inr (inl refl)))))))))))))
among method.ReadAt = inr (inr (inr (inr (inr (inr (inr (inr (inr (inr (inr (inr (inr (inr (inl refl))))))))))))))
among method.Write = inr (inr (inr (inr (inr (inr (inr (inr (inr (inr (inr (inr (inr (inr (inr (inl refl)))))))))))))))
among method.WriteAt = inr (inr (inr (inr (inr (inr (inr (inr (inr (inr (inr (inr (inr (inr (inr (inr (inl refl))))))))))))))))
among method.Seek = inr (inr (inr (inr (inr (inr (inr (inr (inr (inr (inr (inr (inr (inr (inr (inr (inr (inl refl)))))))))))))))))
among method.Resize = inr (inr (inr (inr (inr (inr (inr (inr (inr (inr (inr (inr (inr (inr (inr (inr (inr (inr (inl refl))))))))))))))))))
among method.EchoString = inr (inr (inr (inr (inr (inr (inr (inr (inr (inr (inr (inr (inr (inr (inr (inr (inr (inr (inr (inl refl)))))))))))))))))))

find_step : {X : Type 0} → (p : X → Bool) (n : X) (ns : List X) (b : Bool) → p n ≡ b → find p (n ∷ ns) ≡ cond b (Some n) (find p ns)
find_step p n ns b h = ap (λ (v : Bool). cond v (Some n) (find p ns)) h

-- the one that passes is found
find_one : (p : Method → Bool) (m : Method) (ms : List Method) → p m ≡ true → ((n : Method) → p n ≡ true → n ≡ m) → Among m ms → find p ms ≡ Some m
find_one p m [] passes one h = absurd h
find_one p m (n ∷ ns) passes one h = find_cases p m n ns (p n) refl passes one h (find_one p m ns passes one)
  where
    find_cases : (p : Method → Bool) (m n : Method) (ns : List Method) (b : Bool) → p n ≡ b → p m ≡ true → ((k : Method) → p k ≡ true → k ≡ m) → (m ≡ n) ⊎ Among m ns → (Among m ns → find p ns ≡ Some m) → find p (n ∷ ns) ≡ Some m
    find_cases p m n ns true h passes one among rest = find_step p n ns true h ∙ ap (λ (v : Method). Some v) (one n h)
    find_cases p m n ns false h passes one (inl same) rest = absurd (let clash : true ≡ false = sym passes ∙ ap p same ∙ h in cc)
    find_cases p m n ns false h passes one (inr later) rest = find_step p n ns false h ∙ rest later

-- where none passes, none is found
pub find_none : {X : Type 0} → (p : X → Bool) (ms : List X) → ((n : X) → p n ≡ true → ⊥) → find p ms ≡ None
find_none p [] none = refl
find_none {X} p (n ∷ ns) none = none_cases p n ns (p n) refl none (find_none p ns none)
  where
    none_cases : (p : X → Bool) (n : X) (ns : List X) (b : Bool) → p n ≡ b → ((k : X) → p k ≡ true → ⊥) → find p ns ≡ None → find p (n ∷ ns) ≡ None
    none_cases p n ns true h none rest = absurd (none n h)
    none_cases p n ns false h none rest = find_step p n ns false h ∙ rest

both_true : (a b : Bool) → (a && b) ≡ true → (a ≡ true) × (b ≡ true)
both_true true b h = (refl, h)
both_true false b h = absurd (cc)

passes_says : (p : Protocol) (ordinal : ℕ) (n : Method) → (has_method p n && nat_eq (method_ordinal n) ordinal) ≡ true → (has_method p n ≡ true) × (method_ordinal n ≡ ordinal)
passes_says p ordinal n h =
    let both = both_true (has_method p n) (nat_eq (method_ordinal n) ordinal) h in
    (both.0, same (method_ordinal n) ordinal both.1)
  where
    same : (a b : ℕ) → nat_eq a b ≡ true → a ≡ b
    same a b h = grind (arith, nat_tests)

passes : (p : Protocol) (ordinal : ℕ) (m : Method) → has_method p m ≡ true → method_ordinal m ≡ ordinal → (has_method p m && nat_eq (method_ordinal m) ordinal) ≡ true
passes p ordinal m h e = both (has_method p m) (nat_eq (method_ordinal m) ordinal) h (same (method_ordinal m) ordinal e)
  where
    same : (a b : ℕ) → a ≡ b → nat_eq a b ≡ true
    same a b h = grind (arith, nat_tests)

    both : (a b : Bool) → a ≡ true → b ≡ true → (a && b) ≡ true
    both a b h k = rw (h, k) refl

same_method : (m n : Method) → Some m ≡ Some n → m ≡ n
same_method m n h = cc

-- the one method with an ordinal is the protocol's, where that has it
pub method_in-has : (p : Protocol) (ordinal : ℕ) (m : Method) → has_method p m ≡ true → method_ordinal m ≡ ordinal → ((n : Method) → method_ordinal n ≡ ordinal → Some m ≡ Some n) → method_in p ordinal ≡ Some m
unfolding method_in
method_in-has p ordinal m has is only =
    find_one (λ n. has_method p n && nat_eq (method_ordinal n) ordinal) m all_methods (passes p ordinal m has is)
    (λ n h. sym (same_method m n (only n (passes_says p ordinal n h).1))) (among m)

-- and else it has none
pub method_in-lacks : (p : Protocol) (ordinal : ℕ) (m : Method) → has_method p m ≡ false → ((n : Method) → method_ordinal n ≡ ordinal → Some m ≡ Some n) → method_in p ordinal ≡ None
unfolding method_in
method_in-lacks p ordinal m lacks only =
    find_none (λ n. has_method p n && nat_eq (method_ordinal n) ordinal) all_methods
    (λ n h. let says = passes_says p ordinal n h in let same = same_method m n (only n says.1) in clash (has_method p n) says.0 (ap (has_method p) (sym same) ∙ lacks))
  where
    clash : (b : Bool) → b ≡ true → b ≡ false → ⊥
    clash b t f = cc

-- nor where no method has the ordinal
pub method_in-none : (p : Protocol) (ordinal : ℕ) → ((n : Method) → method_ordinal n ≡ ordinal → ⊥) → method_in p ordinal ≡ None
unfolding method_in
method_in-none p ordinal none =
    find_none (λ n. has_method p n && nat_eq (method_ordinal n) ordinal) all_methods (λ n h. none n (passes_says p ordinal n h).1)

found_passes : {X : Type 0} → (p : X → Bool) (xs : List X) (x : X) → find p xs ≡ Some x → p x ≡ true
found_passes p [] x h = absurd (cc)
found_passes {X} p (y ∷ ys) x h = passes_cases p y ys x (p y) refl (sym (find_step p y ys (p y) refl) ∙ h) (found_passes p ys x)
  where
    passes_cases : (p : X → Bool) (y : X) (ys : List X) (x : X) (b : Bool) → p y ≡ b → cond b (Some y) (find p ys) ≡ Some x → (find p ys ≡ Some x → p x ≡ true) → p x ≡ true
    passes_cases p y ys x true k h rest = let same : y ≡ x = cc in sym (ap p same) ∙ k
    passes_cases p y ys x false k h rest = rest h

-- what is found is the protocol's and has the ordinal
pub method_in-says : (p : Protocol) (ordinal : ℕ) (m : Method) → method_in p ordinal ≡ Some m → (has_method p m ≡ true) × (method_ordinal m ≡ ordinal)
unfolding method_in
method_in-says p ordinal m h = passes_says p ordinal m (found_passes (λ n. has_method p n && nat_eq (method_ordinal n) ordinal) all_methods m h)

-- ---- of every protocol

test_says : (ordinal : ℕ) (n : Method) → nat_eq (method_ordinal n) ordinal ≡ true → method_ordinal n ≡ ordinal
test_says ordinal n h = grind (arith, nat_tests)

says_test : (ordinal : ℕ) (n : Method) → method_ordinal n ≡ ordinal → nat_eq (method_ordinal n) ordinal ≡ true
says_test ordinal n h = grind (arith, nat_tests)

-- what says which method has the ordinal is the method with it
pub method_with-is : (o : Option Method) (ordinal : ℕ) → IfSome o (λ m. method_ordinal m ≡ ordinal) → ((m : Method) → method_ordinal m ≡ ordinal → o ≡ Some m) →
    (IsNone o → (m : Method) → method_ordinal m ≡ ordinal → ⊥) → o ≡ method_with ordinal
unfolding method_with
method_with-is None ordinal found only none =
    sym (find_none (λ m. nat_eq (method_ordinal m) ordinal) all_methods (λ n h. none refl n (test_says ordinal n h)))
method_with-is (Some m) ordinal found only none =
    sym (find_one (λ m. nat_eq (method_ordinal m) ordinal) m all_methods (says_test ordinal m found) (λ n h. sym (same_method m n (only n (test_says ordinal n h)))) (among m))

pub method_with-says : (ordinal : ℕ) (m : Method) → method_with ordinal ≡ Some m → method_ordinal m ≡ ordinal
unfolding method_with
method_with-says ordinal m h = test_says ordinal m (found_passes (λ n. nat_eq (method_ordinal n) ordinal) all_methods m h)

-- the one method with an ordinal is found
pub method_with-has : (ordinal : ℕ) (m : Method) → method_ordinal m ≡ ordinal → ((n : Method) → method_ordinal n ≡ ordinal → Some m ≡ Some n) → method_with ordinal ≡ Some m
method_with-has ordinal m is only = sym (method_with-is (Some m) ordinal is only (λ none. absurd (cc)))

-- where each method has an ordinal of its own, one with an ordinal is the only one
pub only_method : MethodsHaveTheirOwn → (m : Method) (ordinal : ℕ) → method_ordinal m ≡ ordinal → (n : Method) → method_ordinal n ≡ ordinal → Some m ≡ Some n
only_method apart m ordinal h n k = ap (λ (v : Method). Some v) (apart m n (h ∙ sym k))

-- a request's method is that of its fields
pub method_read : (m : Method) (items : List Item) → method_of (asked_from m items) ≡ m
method_read method.Clone items = refl
method_read method.Close items = refl
method_read method.Query items = refl
method_read method.GetAttributes items = refl
method_read method.Sync items = refl
method_read method.OpenPath items = refl
method_read method.ReadDirents items = refl
method_read method.Rewind items = refl
method_read method.GetToken items = refl
method_read method.Rename items = refl
method_read method.Link items = refl
method_read method.Unlink items = refl
method_read method.Watch items = refl
method_read method.Read items = refl
method_read method.ReadAt items = refl
method_read method.Write items = refl
method_read method.WriteAt items = refl
method_read method.Seek items = refl
method_read method.Resize items = refl
method_read method.EchoString items = refl

-- and so is that of bytes and handles which are a request
pub method_asked : (bytes : List ℕ) (handles : List Handle) (txid : ℕ) (a : Asked) (r : IsAsked bytes handles txid a) → method_of a ≡ r.method
method_asked bytes handles txid a r = ap method_of (sym r.fields_are) ∙ method_read r.method r.items

-- the number of a member that is a number
pub number_again : (v : Option ℕ) → number_of (option_map a_number v) ≡ v
number_again None = refl
number_again (Some x) = refl
