use Rattle.mailboxes.proofs.{Words.{◌≡◌, ◌-◌, ◌++◌, ◌∷◌, [], set, get_or, ap, ◌∙◌, arith, Key}, Homes.{items_of}, Rows.{row_more}}
use Rattle.mailboxes.proofs.tray.Tray.put.Goals as goal

pub returns-clause-filed : goal.returns-clause-filed
returns-clause-filed c =
    let i = c.place_of-at.result in
    let x = c.args.letter in
    let at : i ≡ x.key.receiver - 1 = omega (arith, c.place_of-at.ensures, ap (λ (k : Key). k.receiver) c.key.ensures) in
    let rows = c.self.view_is in
    row_more items_of c.self.inside.lists.items i c.index_mut.result.now c.push.new.self c.index_mut.ensures.value (x ∷ []) c.in_ok-push.ensures.items
    ∙ (λ j. set (rows j) (at j) (get_or (rows j) (at j) [] ++ x ∷ []))
