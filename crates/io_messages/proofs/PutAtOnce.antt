-- Requests whose fields are put at once: one number, and an Open without options.
use Rattle.std.proofs.Common.{◌≡◌, ℕ, ◌+◌, ◌<◌, ◌≤◌, List, [], ◌∷◌, ◌++◌, length, replicate, None, sym, ap, ◌∙◌, append_assoc, length-append, arith}
use Rattle.std.proofs.lemmas.List.{append-nil}
use Rattle.fidl_names.specs.Numbers.{number_bytes}
use Rattle.fidl_wire.specs.declared.headers.Header.{Header}
use Rattle.fidl_wire.specs.Headers.{header_bytes}
use Rattle.fidl_wire.specs.Numbers.{padding_after, padded}
use Rattle.fidl_wire.specs.Spelling.{count_bytes, object_bytes}
use Rattle.fidl_wire.specs.Written.{padded_bytes}
use Rattle.io_messages.specs.Asked.{open_path}
use Rattle.io_messages.specs.declared.fields.Field.TheVariants.{Long}
use Rattle.io_messages.specs.Fields.{parts_of}
use Rattle.io_messages.specs.Writing.{request_body}
use Rattle.io_messages.proofs.Lengths.{four_zeros, length-count, length-header, length-number, length-padded, padded-least}
use Rattle.io_messages.proofs.Unions.{cat}

-- ---- one number

eight_whole : (bytes : List ℕ) → length bytes ≡ 8 → padded_bytes bytes ≡ bytes
unfolding padding_after
eight_whole bytes h = ap (λ (n : ℕ). bytes ++ replicate (padding_after n) 0) h ∙ append-nil bytes

long_is : (x : ℕ) → object_bytes (parts_of (Long x ∷ [])) ≡ number_bytes 8 x
long_is x =
    ap (λ (v : List ℕ). padded_bytes v ++ []) (append-nil (number_bytes 8 x))
    ∙ ap (λ (v : List ℕ). v ++ []) (eight_whole (number_bytes 8 x) (length-number 8 x))
    ∙ append-nil (number_bytes 8 x)

pub long_put : (old header first last : List ℕ) (x : ℕ) → old ≡ [] → first ≡ old ++ header → last ≡ first ++ number_bytes 8 x → last ≡ header ++ object_bytes (parts_of (Long x ∷ []))
long_put old header first last x none h k =
    k ∙ ap (λ (v : List ℕ). v ++ number_bytes 8 x) (h ∙ ap (λ (v : List ℕ). v ++ header) none) ∙ ap (λ (v : List ℕ). header ++ v) (sym (long_is x))

pub long_fits : (header : Header) (x : ℕ) → length (header_bytes header ++ object_bytes (parts_of (Long x ∷ []))) ≤ 65536
long_fits header x =
    omega (arith, cat (header_bytes header) (object_bytes (parts_of (Long x ∷ []))) 16 8 (length-header header) (ap length (long_is x) ∙ length-number 8 x))

-- ---- an Open without options

-- what stands in front of its path
abbrev pub open_head : ℕ → ℕ → List ℕ
open_head len flags = count_bytes len ++ number_bytes 8 flags ++ count_bytes 0 ++ number_bytes 4 0xffff_ffff ++ number_bytes 4 0

pub length-open_head : (len flags : ℕ) → length (open_head len flags) ≡ 48
length-open_head len flags =
    let first = cat (count_bytes len) (number_bytes 8 flags) 16 8 (length-count len) (length-number 8 flags) in
    let second = cat (count_bytes len ++ number_bytes 8 flags) (count_bytes 0) 24 16 first (length-count 0) in
    let third = cat (count_bytes len ++ number_bytes 8 flags ++ count_bytes 0) (number_bytes 4 0xffff_ffff) 40 4 second (length-number 4 0xffff_ffff) in
    cat (count_bytes len ++ number_bytes 8 flags ++ count_bytes 0 ++ number_bytes 4 0xffff_ffff) (number_bytes 4 0) 44 4 third (length-number 4 0)

groups : (a b c d e : List ℕ) → a ++ (b ++ (c ++ (d ++ e))) ≡ (((a ++ b) ++ c) ++ d) ++ e
groups a b c d e = simp append_assoc

inline_is : (len flags : ℕ) → count_bytes len ++ (number_bytes 8 flags ++ (count_bytes 0 ++ (number_bytes 4 0xffff_ffff ++ (0 ∷ 0 ∷ 0 ∷ 0 ∷ [])))) ≡ open_head len flags
inline_is len flags =
    groups (count_bytes len) (number_bytes 8 flags) (count_bytes 0) (number_bytes 4 0xffff_ffff) (0 ∷ 0 ∷ 0 ∷ 0 ∷ [])
    ∙ ap (λ (v : List ℕ). (((count_bytes len ++ number_bytes 8 flags) ++ count_bytes 0) ++ number_bytes 4 0xffff_ffff) ++ v) (sym four_zeros)

head_whole : (bytes : List ℕ) → length bytes ≡ 48 → padded_bytes bytes ≡ bytes
unfolding padding_after
head_whole bytes h = ap (λ (n : ℕ). bytes ++ replicate (padding_after n) 0) h ∙ append-nil bytes

open_body : (path : List ℕ) (flags object : ℕ) → request_body (open_path path flags None object) ≡ open_head (length path) flags ++ padded_bytes path
open_body path flags object =
    ap (λ (v : List ℕ). padded_bytes v ++ (padded_bytes path ++ [])) (inline_is (length path) flags)
    ∙ ap (λ (v : List ℕ). v ++ (padded_bytes path ++ [])) (head_whole (open_head (length path) flags) (length-open_head (length path) flags))
    ∙ ap (λ (v : List ℕ). open_head (length path) flags ++ v) (append-nil (padded_bytes path))

pub open_put : (old header first head second third last path : List ℕ) (flags object : ℕ) → old ≡ [] → first ≡ old ++ header → second ≡ first ++ head → head ≡ open_head (length path) flags →
    third ≡ second ++ padded_bytes path → last ≡ third → last ≡ header ++ request_body (open_path path flags None object)
open_put old header first head second third last path flags object none h1 h2 is h3 h4 =
    h4 ∙ h3
    ∙ ap (λ (v : List ℕ). v ++ padded_bytes path) (h2 ∙ ap (λ (v : List ℕ). v ++ head) (h1 ∙ ap (λ (v : List ℕ). v ++ header) none) ∙ ap (λ (v : List ℕ). header ++ v) is)
    ∙ append_assoc header (open_head (length path) flags) (padded_bytes path)
    ∙ ap (λ (v : List ℕ). header ++ v) (sym (open_body path flags object))

open_length : (header : Header) (path : List ℕ) (flags object : ℕ) → length (header_bytes header ++ request_body (open_path path flags None object)) ≡ 64 + padded (length path)
open_length header path flags object =
    let body : length (request_body (open_path path flags None object)) ≡ 48 + padded (length path) =
    ap length (open_body path flags object) ∙ cat (open_head (length path) flags) (padded_bytes path) 48 (padded (length path)) (length-open_head (length path) flags) (length-padded path) in
    omega (arith, length-append (header_bytes header) (request_body (open_path path flags None object)), length-header header, body)

pub open_fits : (header : Header) (path : List ℕ) (flags object : ℕ) → length path ≤ 65472 → length (header_bytes header ++ request_body (open_path path flags None object)) ≤ 65536
unfolding padding_after
open_fits header path flags object few = omega (arith, open_length header path flags object)

pub open_long : (header : Header) (path : List ℕ) (flags object : ℕ) → 65472 < length path → 65536 < length (header_bytes header ++ request_body (open_path path flags None object))
open_long header path flags object many = omega (arith, open_length header path flags object, padded-least (length path))

-- there is room for a path and its padding
pub path_room : (path : List ℕ) → length path ≤ 65472 → 64 + length (padded_bytes path) ≤ 65536
unfolding padding_after
path_room path few = omega (arith, length-padded path)
