use Rattle.std.proofs.Common.{◌≡◌, ◌==◌, ◌+◌, ◌++◌, ◌∷◌, [], List, false, length, ap, sym, ◌∙◌, subst}
use Rattle.std.specs.List.{list_any}
use Rattle.std.proofs.lemmas.List.{length_push}
use Rattle.td_stamp.specs.declared.values.Rec.{Rec}
use Rattle.td_batch.specs.Meaning.{Bags, emitted}
use Rattle.td_batch.specs.Steps.Tree.{nodes_of, reads, AreAlike}
use Rattle.td_batch.proofs.Alike.{alike_same, alike_but, alike_then, last_but}
use Rattle.td_batch.proofs.emission.keep.Goals as goal
use Rattle.td_batch.proofs.emission.keep.Goals.{then-is_needed, else-is_needed, then-not-is_needed, else-not-is_needed}

pub loop-source-init : goal.loop-source-init
loop-source-init c =
    let bags : Bags = c.args.bags.now.items in
    let bag : List Rec = c.args.bag in
    let kept : List Rec = c.if-is_needed.kept in
    let list = reads c.args.is_first (nodes_of c.args.rest.now) ++ c.args.need.now in
    let pushed : c.push.new.self.items ≡ bags ++ kept ∷ [] = c.in_ok-push.ensures.items in (
      ap (length {A = List Rec}) pushed ∙ length_push bags kept,
      elim c.if-is_needed.branch [
        | then-is_needed w ↦ alike_same list c.push.new.self.items (bags ++ bag ∷ []) (pushed ∙ ap (λ b. bags ++ b ∷ []) w.kept-is)
        | else-is_needed w ↦
            let none : list_any (λ s. s == length bags) list ≡ false =
            ap (λ n. list_any (λ s. s == n) list) (sym (c.from.ensures ∙ c.number.ensures ∙ c.requires)) ∙ sym c.is_needed.ensures ∙ w.if-is_needed.false in
            alike_but list (length bags) c.push.new.self.items (bags ++ bag ∷ []) none (λ s other. ap (λ (bs : Bags). emitted bs s) pushed ∙ last_but bags kept bag s other)
      ],
    )

pub loop-source-preserved : goal.loop-source-preserved
loop-source-preserved c =
    let all : Bags = c.args.bags.now.items ++ c.args.bag ∷ [] in
    let bags : Bags = c.loop-source.bags.items in
    let list = reads c.args.is_first (nodes_of c.args.rest.now) ++ c.args.need.now in
    elim c.if-not-is_needed.branch [
      | then-not-is_needed w ↦
          let now : Bags = c.if-not-is_needed.bags.items in
          let same : now ≡ w.let_go.new.bags.items = ap (λ v. v.items) w.bags-is in (
            ap (length {A = List Rec}) same ∙ w.let_go.ensures.length ∙ c.loop-source.invariant.0,
            alike_then list now bags all
                (alike_but list _ now bags (sym c.is_needed-in-loop-source.ensures ∙ w.if-not-is_needed.true) (λ s other. ap (λ (bs : Bags). emitted bs s) same ∙ w.let_go.ensures.others s (λ e. other (e ∙ sym c.from-in-loop-source.ensures))))
                c.loop-source.invariant.1,
          )
      | else-not-is_needed w ↦
          let same : c.if-not-is_needed.bags.items ≡ bags = ap (λ v. v.items) w.bags-is in
          subst (λ (bs : Bags). (length bs ≡ length c.args.bags.now.items + 1) × AreAlike list bs all) (sym same) c.loop-source.invariant
    ]
