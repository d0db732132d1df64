-- Answers that are Ok, or aren't.
use Rattle.std.proofs.Common.{ℕ, List, Option, Result, Ok, Err, OnOk, OnErr, sym, subst}
use Rattle.host_io.specs.Streams.{AppendsPart}
use Rattle.script_session.specs.Telling.{IsTold}
use Rattle.script_session.proofs.Lines.{front_told, part_longer}
use Rattle.script_session.proofs.Played.{Grows}

pub any_err : {X E : Type 0} (r : Result X E) (P : Type 0) → P → OnErr r P
any_err (Ok x) P p = tt
any_err (Err e) P p = p

pub on_ok : {X E : Type 0} (r : Result X E) (P Q : Type 0) → (P → Q) → OnOk r P → OnOk r Q
on_ok (Ok x) P Q f p = f p
on_ok (Err e) P Q f p = tt

pub on_err : {X E : Type 0} (r : Result X E) (P Q : Type 0) → (P → Q) → OnErr r P → OnErr r Q
on_err (Ok x) P Q f p = tt
on_err (Err e) P Q f p = f p

-- a part of a text that goes on
pub part_grows : (first now : Option (List ℕ)) (text later : List ℕ) → Grows text later → AppendsPart first now text → AppendsPart first now later
part_grows first now text later grows part = subst (AppendsPart first now) (sym grows.1) (part_longer first now text grows.0 part)

-- what was written so far is a part of it
pub front_grows_on : (first now : Option (List ℕ)) (gathered text later : List ℕ) → Grows text later → IsTold first now gathered text → AppendsPart first now later
front_grows_on first now gathered text later grows told = part_grows first now text later grows (front_told first now gathered text told)
