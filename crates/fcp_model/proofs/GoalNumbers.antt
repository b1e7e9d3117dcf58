-- The numbers of a goal's items, one by one.
use Rattle.std.proofs.Common.{◌≡◌, ℕ, ◌+◌, ◌<◌, List, [], ◌∷◌, ◌++◌, length, map, take, set, get_or, Some, None, ap, sym, ◌∙◌, arith}
use Rattle.std.proofs.lemmas.List.{length-map, get_or-map, map_push, take_more, take_more_set}
use Rattle.fcp_model.specs.declared.source.Item.{Item}
use Rattle.fcp_model.specs.declared.source.Module.{Module}
use Rattle.fcp_model.specs.Goals.{number_of_item, AreNumbersOf}

-- one more item
pub numbers_more : (m : Module) (items : List Item) (numbers : List ℕ) (i n : ℕ) (item : Item) → i < length items → i < length numbers
    → AreNumbersOf m (take i items) (take i numbers) → item ≡ get_or items i item → number_of_item m item ≡ Some n
    → AreNumbersOf m (take (i + 1) items) (take (i + 1) (set numbers i n))
numbers_more m items numbers i n item inside room so_far is number =
    ap (map Some) (take_more_set numbers i n room)
    ∙ map_push Some (take i numbers) n
    ∙ (λ j. so_far j ++ sym number j ∷ [])
    ∙ sym (map_push (number_of_item m) (take i items) item)
    ∙ ap (map (number_of_item m)) (ap (λ x. take i items ++ x ∷ []) is ∙ sym (take_more items i item inside))

-- there are as many numbers as items
pub length-numbers : (m : Module) (items : List Item) (numbers : List ℕ) → AreNumbersOf m items numbers → length numbers ≡ length items
length-numbers m items numbers are = sym (length-map numbers Some) ∙ ap length are ∙ length-map items (number_of_item m)

-- the number at an item's position is the item's
pub number_at : (m : Module) (items : List Item) (numbers : List ℕ) → AreNumbersOf m items numbers → (i : ℕ) (d : Item) → i < length items
    → number_of_item m (get_or items i d) ≡ Some (get_or numbers i 0)
number_at m items numbers are i d inside =
    sym (get_or-map (number_of_item m) items i d None inside)
    ∙ ap (λ l. get_or l i None) (sym are)
    ∙ get_or-map Some numbers i 0 None (omega (arith, length-numbers m items numbers are, inside))
