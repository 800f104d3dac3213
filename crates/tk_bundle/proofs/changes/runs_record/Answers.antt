use Rattle.std.proofs.Common.{◌≡◌, ℕ, List, ◌∷◌, ◌++◌, None, filter, length, map, sym, ap, ◌∙◌}
use Rattle.std.proofs.Common.{append_assoc}
use Rattle.std.specs.Int.{w16}
use Rattle.tk_format.specs.Format.{number}
use Rattle.tk_bundle.specs.Bundle.{magic, horizon_bytes}
use Rattle.tk_bundle.specs.News.{counts}
use Rattle.tk_bundle.specs.PieceCounts.{marked_item, piece_count}
use Rattle.tk_bundle.specs.Pieces.{grouped}
use Rattle.tk_bundle.specs.RunPage.{pieces_bytes}
use Rattle.tk_bundle.proofs.PieceCountLaws.{counted}
use Rattle.tk_bundle.proofs.changes.runs_record.Goals as goal

pub returns : goal.returns
returns c =
    let S = c.args.store.now.slots in
    let kept = filter (counts S) c.args.sent.now.items in
    let count : c.count_pieces-count.result ≡ length (grouped kept) =
    c.count_pieces-count.ensures.value
    ∙ ap (λ items. piece_count None (map marked_item (filter (counts S) items)))
    c.items-items.ensures ∙ sym (counted kept) in
    let begun : c.in_ok-writer.writer ≡ magic ++ (c.args.version
    ∷ horizon_bytes c.args.sent.now.horizon ++ (number w16).spell (length (grouped kept))) =
    c.in_ok-writer.ensures
    ∙ ap (λ o. magic ++ (c.args.version ∷ horizon_bytes o
    ++ (number w16).spell c.count_pieces-count.result)) c.horizon.ensures
    ∙ ap (λ n. magic ++ (c.args.version ∷ horizon_bytes c.args.sent.now.horizon
    ++ (number w16).spell n)) count in
    c.into_bytes.ensures ∙ c.in_ok-write_pieces.ensures
    ∙ ap (λ items. c.in_ok-writer.writer ++ pieces_bytes (grouped (filter (counts S) items)))
    c.items-items.ensures
    ∙ ap (λ (l : List ℕ). l ++ pieces_bytes (grouped kept)) begun
    ∙ ap (λ (l : List ℕ). magic ++ (c.args.version ∷ l))
    (append_assoc (horizon_bytes c.args.sent.now.horizon)
    ((number w16).spell (length (grouped kept))) (pieces_bytes (grouped kept)))
