-- A listing's reply, begun before its bytes.
use Rattle.std.proofs.Common.{◌≡◌, ℕ, ◌%◌, List, ◌++◌, length, Some, sym, ap, ◌∙◌, append_assoc, length-append, arith}
use Rattle.std.proofs.lemmas.List.{append-nil}
use Rattle.fidl_names.specs.Numbers.{number_bytes}
use Rattle.fidl_wire.specs.Numbers.{padding_after}
use Rattle.fidl_wire.specs.Spelling.{body_bytes, count_bytes}
use Rattle.fidl_wire.specs.Written.{padded_bytes}
use Rattle.fidl_wire.proofs.Padded.{padded_behind}
use Rattle.io_messages.specs.declared.replies.Shape.TheVariants as shape
use Rattle.io_messages.specs.Replies.{reply_layout}
use Rattle.io_messages.specs.ReplyWriting.{carried}
use Rattle.io_messages.proofs.Lengths.{length-count, length-number}

-- the body is a status, a count, and the bytes with their padding
listing_body : (listed : List ℕ) → (number_bytes 8 0 ++ count_bytes (length listed)) ++ padded_bytes listed ≡ body_bytes (reply_layout shape.Listing) (carried (Some shape.Listing) listed)
unfolding number_bytes padding_after
listing_body listed = ap (λ (back : List ℕ). (number_bytes 8 0 ++ count_bytes (length listed)) ++ back) (sym (append-nil (padded_bytes listed)))

pub listing_begun : (head before listed : List ℕ) (count : ℕ) → length head ≡ 16 → length listed ≡ count → before ≡ (head ++ number_bytes 8 0) ++ count_bytes count
    → padded_bytes (before ++ listed) ≡ head ++ body_bytes (reply_layout shape.Listing) (carried (Some shape.Listing) listed)
listing_begun head before listed count size same is =
    let inner = number_bytes 8 0 ++ count_bytes (length listed) in
    let begun : before ≡ head ++ inner =
    is ∙ ap (λ (n : ℕ). (head ++ number_bytes 8 0) ++ count_bytes n) (sym same) ∙ append_assoc head (number_bytes 8 0) (count_bytes (length listed)) in
    let long : length (head ++ inner) ≡ 40 =
    omega (arith, size, length-append head inner, length-append (number_bytes 8 0) (count_bytes (length listed)), length-number 8 0, length-count (length listed)) in
    ap (λ (front : List ℕ). padded_bytes (front ++ listed)) begun
    ∙ padded_behind (head ++ inner) listed (ap (λ (n : ℕ). n % 8) long)
    ∙ append_assoc head inner (padded_bytes listed)
    ∙ ap (λ (body : List ℕ). head ++ body) (listing_body listed)
