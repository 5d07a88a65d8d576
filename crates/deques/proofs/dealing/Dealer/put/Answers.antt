use Rattle.deques.proofs.{Words.{length-map, ◌≡◌, ◌<◌, ◌++◌, ◌∷◌, [], None, length, sym, ap, ◌∙◌, subst, owner_of, dealt_of, with_item}, Deals.{put_is}}
use Rattle.std.proofs.lemmas.Result.{on_ok_weaker}
use Rattle.deques.proofs.dealing.Dealer.put.Goals as goal

pub returns : goal.returns
returns g c =
    let lt : c.args.at < length c.self.inside.owners.items = subst (λ n. c.args.at < n) (sym (ap length c.self.view_is) ∙ length-map c.self.inside.owners.items dealt_of) c.requires in
    let d = c.index_mut.result.now in
    on_ok_weaker c.put.result
    (λ (e : c.put.new.self ≡ owner_of d.deque d.out (d.put ++ c.args.item ∷ []) d.taken None). put_is c.self.inside.owners.items c.args.at d c.put.new.self c.args.item c.index_mut.ensures.value lt (ap dealt_of e) ∙ ap (λ l. with_item l c.args.at c.args.item) c.self.view_is)
    c.put.ensures.ok
