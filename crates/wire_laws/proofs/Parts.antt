-- Where a part stands in a message, and what reading it leaves.
use Rattle.std.proofs.Common.{◌≡◌, ℕ, ◌+◌, List, length, drop, refl, length-append, add-zero, add_assoc}
use Rattle.std.proofs.lemmas.List.{drop-drop}
use Rattle.fidl_names.specs.declared.methods.Handle.{Handle}
use Rattle.fidl_wire.specs.Cursor.{Cursor}
use Rattle.fidl_wire.specs.Reading.{passed}
pub use Rattle.wire_laws.specs.Meanings.{Stands}
use Rattle.fidl_wire.specs.Grammar.{Part, nothing, join, IsInline}
use Rattle.wire_laws.proofs.Slices.{Begins, begins-append, begins-append_first, begins-append_rest}

-- behind a part
abbrev pub moved : Cursor → Part → Cursor
moved c p = record {
  message = c.message;
  handles = drop (length p.handles) c.handles;
  place = c.place + length p.inline;
  end = c.end;
  out = c.out + length p.outside;
  opened = c.opened;
}

pub stands-nothing : (m : List ℕ) (at out : ℕ) (hs : List Handle) → Stands m at out hs nothing
stands-nothing m at out hs = record { inline = refl; outside = refl; handles = refl }

behind_first : {A : Type 0} → (a b : List A) (at : ℕ) (m : List A) → Begins (drop (length a) (drop at m)) b → Begins (drop (at + length a) m) b
behind_first a b at m h = rw (drop-drop (length a) at m) at h

ahead_rest : {A : Type 0} → (a b : List A) (at : ℕ) (m : List A) → Begins (drop (at + length a) m) b → Begins (drop (length a) (drop at m)) b
ahead_rest a b at m h = rw (drop-drop (length a) at m) h

pub stands-join : (m : List ℕ) (at out : ℕ) (hs : List Handle) (p q : Part) → Stands m at out hs p →
    Stands m (at + length p.inline) (out + length p.outside) (drop (length p.handles) hs) q → Stands m at out hs (join p q)
stands-join m at out hs p q first rest = record {
  inline = begins-append p.inline q.inline (drop at m) first.inline (ahead_rest p.inline q.inline at m rest.inline);
  outside = begins-append p.outside q.outside (drop out m) first.outside (ahead_rest p.outside q.outside out m rest.outside);
  handles = begins-append p.handles q.handles hs first.handles rest.handles;
}

pub stands-join_first : (m : List ℕ) (at out : ℕ) (hs : List Handle) (p q : Part) → Stands m at out hs (join p q) → Stands m at out hs p
stands-join_first m at out hs p q both = record {
  inline = begins-append_first p.inline q.inline (drop at m) both.inline;
  outside = begins-append_first p.outside q.outside (drop out m) both.outside;
  handles = begins-append_first p.handles q.handles hs both.handles;
}

pub stands-join_rest : (m : List ℕ) (at out : ℕ) (hs : List Handle) (p q : Part) → Stands m at out hs (join p q) →
    Stands m (at + length p.inline) (out + length p.outside) (drop (length p.handles) hs) q
stands-join_rest m at out hs p q both = record {
  inline = behind_first p.inline q.inline at m (begins-append_rest p.inline q.inline (drop at m) both.inline);
  outside = behind_first p.outside q.outside out m (begins-append_rest p.outside q.outside (drop out m) both.outside);
  handles = begins-append_rest p.handles q.handles hs both.handles;
}

pub moved-nothing : (c : Cursor) → moved c nothing ≡ c
moved-nothing c = simp add-zero

pub moved-join : (c : Cursor) (p q : Part) → moved (moved c p) q ≡ moved c (join p q)
moved-join c p q = simp (length-append, drop-drop, add_assoc)

-- behind inline bytes alone
pub moved-inline : (c : Cursor) (p : Part) (size : ℕ) → IsInline p → length p.inline ≡ size → moved c p ≡ passed size c
moved-inline c p size i h = rw (i.outside_is, i.handles_are, h) (simp add-zero)
