-- Each item of an image stands in its bytes, at its place.
use Rattle.std.proofs.Common.{◌≡◌, ℕ, zero, suc, ◌<◌, ◌≤◌, ◌^◌, List, [], ◌∷◌, ◌++◌, length, take, drop, Some, refl, sym, ap, ◌∙◌, append_assoc, arith, inl, inr}
use Rattle.std.specs.Prelude.{Option, slice_get, codes}
use Rattle.std.specs.List.{flat_map}
use Rattle.std.proofs.lemmas.List.{append-nil, length-append}
use Rattle.std.proofs.lemmas.Option.{slice_get_cases, slice_get_within}
use Rattle.cx_code.specs.declared.image.Image.{Image}
use Rattle.cx_code.specs.declared.image.Function.{Function}
use Rattle.cx_code.specs.declared.image.TypeEntry.{TypeEntry}
use Rattle.cx_code.specs.Spelling.{number, text, list, instruction, region, type_entry, global, function, assertion, image_spelling}
use Rattle.cx_code.specs.Storable.{IsStorable}
use Rattle.cx_reach.specs.declared.item.Item.{Item}
use Rattle.cx_reach.specs.declared.item.Item.TheVariants as items
use Rattle.cx_reach.specs.declared.rule.Rule.{Rule}
use Rattle.cx_reach.specs.Broken.{IsBroken}
use Rattle.cx_image.specs.Places.{before_types, before_dropper, before_functions, before_code, before_instruction, before_region, before_main, before, place_of, up_to, HasItem, of, item_bytes, ItemsStand}

module _ {X : Type 0} where
  -- the items before, and the first part of the one that is there
  pub up_to_is : (item first : X → List ℕ) (xs : List X) (index : ℕ) (x : X) → slice_get xs index ≡ Some x → up_to item first xs index ≡ flat_map item (take index xs) ++ first x
  unfolding up_to
  up_to_is item first [] index x e = absurd (cc)
  up_to_is item first (y ∷ xs) zero x e = ap (λ (found : Option X). of found first) e
  up_to_is item first (y ∷ xs) (suc index) x e = ap (λ more. item y ++ more) (up_to_is item first xs index x e) ∙ sym (append_assoc (item y) (flat_map item (take index xs)) (first x))

  -- the items of a list at and behind an index
  pub split : (item : X → List ℕ) (xs : List X) (index : ℕ) (x : X) → slice_get xs index ≡ Some x → flat_map item xs ≡ flat_map item (take index xs) ++ (item x ++ flat_map item (drop (suc index) xs))
  split item [] index x e = absurd (cc)
  split item (y ∷ xs) zero x e = ap (λ (found : Option X). of found item ++ flat_map item xs) e
  split item (y ∷ xs) (suc index) x e = ap (λ more. item y ++ more) (split item xs index x e) ∙ sym (append_assoc (item y) (flat_map item (take index xs)) (item x ++ flat_map item (drop (suc index) xs)))

  -- what stands behind the first part
  pub behind : (item first : X → List ℕ) (xs : List X) (index : ℕ) (x : X) (rest : List ℕ) → slice_get xs index ≡ Some x → item x ≡ first x ++ rest
      → flat_map item xs ≡ up_to item first xs index ++ (rest ++ flat_map item (drop (suc index) xs))
  behind item first xs index x rest e is = rw (split item xs index x e, up_to_is item first xs index x e, is) (simp append_assoc)

length_number : (n : ℕ) → length (number n) ≡ 4
unfolding number
length_number n = refl

-- what there is of a list at an index
pub there : {X : Type 0} (xs : List X) (index : ℕ) → index < length xs → (x : X) × (slice_get xs index ≡ Some x)
there xs index within = elim (slice_get_cases xs index).1 [ inl (x, inside, e, same) ↦ (x, e) | inr (past, none) ↦ absurd (omega (arith, within, past)) ]

-- the image has the item at which a rule is broken
pub broken_is_there : (image : Image) (item : Item) (rule : Rule) → IsBroken image item rule → HasItem image item
broken_is_there image (items.Instruction index place) rule (f, i, at, e, breaks) = (f, at, slice_get_within f.code place i e)
broken_is_there image (items.Count index) rule (six, (f, at, none)) = slice_get_within image.functions index f at
broken_is_there image (items.Region index own) rule (f, r, at, e, breaks) = (f, at, slice_get_within f.regions own r e)
broken_is_there image (items.Dropper type) rule (seven, (entry, e, bad)) = slice_get_within image.types type entry e
broken_is_there image items.Main rule broken = tt
broken_is_there image items.Handler rule broken = tt

-- ---- the bytes of the image around each item

-- the bytes are those before `main`, and the last two fields
spelled : (image : Image) → image_spelling image ≡ before_main image ++ number image.main ++ number image.handler
unfolding image_spelling before_main before_functions before_types
spelled image =
    ap (λ front. front ++ list global image.globals ++ list function image.functions ++ list assertion image.assertions ++ number image.main ++ number image.handler)
    (sym (append_assoc (codes "CXIM" ++ (1 ∷ []) ++ list text image.texts) (number (length image.types)) (flat_map type_entry image.types)))

before_main_is : (image : Image) → before_main image ≡ before_functions image ++ list function image.functions ++ list assertion image.assertions
unfolding before_main
before_main_is image = refl

before_functions_is : (image : Image) → before_functions image ≡ before_types image ++ flat_map type_entry image.types ++ list global image.globals
unfolding before_functions
before_functions_is image = refl

abbrev behind_functions : Image → List ℕ
behind_functions image = list assertion image.assertions ++ (number image.main ++ number image.handler)

regroup : (before count items up rest more behind : List ℕ) → items ≡ up ++ (rest ++ more) → before ++ ((count ++ items) ++ behind) ≡ (before ++ count ++ up) ++ (rest ++ (more ++ behind))
regroup before count items up rest more behind e = rw e (simp append_assoc)

in_functions : (image : Image) (index : ℕ) (f : Function) (first : Function → List ℕ) (rest : List ℕ) → slice_get image.functions index ≡ Some f → function f ≡ first f ++ rest
    → image_spelling image ≡ (before_functions image ++ number (length image.functions) ++ up_to function first image.functions index) ++ (rest ++ (flat_map function (drop (suc index) image.functions) ++ behind_functions image))
in_functions image index f first rest at is =
    spelled image ∙ (ap (λ front. front ++ number image.main ++ number image.handler) (before_main_is image)
    ∙ (four (before_functions image) (list function image.functions) (list assertion image.assertions) (number image.main) (number image.handler)
    ∙ regroup (before_functions image) (number (length image.functions)) (flat_map function image.functions) (up_to function first image.functions index) rest (flat_map function (drop (suc index) image.functions)) (behind_functions image) (behind function first image.functions index f rest at is)))
  where
    four : (a b c d e : List ℕ) → a ++ b ++ c ++ d ++ e ≡ a ++ (b ++ (c ++ (d ++ e)))
    four a b c d e = simp append_assoc

own_is : {X : Type 0} (found : Option X) (x : X) (bytes : X → List ℕ) → found ≡ Some x → of found bytes ≡ bytes x
own_is found x bytes e = ap (λ o. of o bytes) e

-- the item is the first part of the rest
standing : (image : Image) (item : Item) (own more : List ℕ) → item_bytes image item ≡ own → image_spelling image ≡ before image item ++ (own ++ more) → (rest : List ℕ) × (image_spelling image ≡ before image item ++ item_bytes image item ++ rest)
standing image item own more is e = (more, e ∙ (ap (λ bytes. before image item ++ (bytes ++ more)) (sym is) ∙ sym (append_assoc (before image item) (item_bytes image item) more)))

pub items_stand : ItemsStand
items_stand image (items.Instruction index place) (f, at, within) =
    let (i, e) = there f.code place within in
    let rest = flat_map instruction (drop (suc place) f.code) ++ list region f.regions in
    let behind_f = flat_map function (drop (suc index) image.functions) ++ behind_functions image in
    standing image (items.Instruction index place) (instruction i) (rest ++ behind_f)
    (own_is (slice_get image.functions index) f (λ (f : Function). of (slice_get f.code place) instruction) at ∙ own_is (slice_get f.code place) i instruction e)
    (in_functions image index f (before_instruction place) (instruction i ++ rest) at (five (before_code f) (number (length f.code)) (flat_map instruction f.code) (flat_map instruction (take place f.code)) (instruction i) (flat_map instruction (drop (suc place) f.code)) (list region f.regions) (split instruction f.code place i e))
    ∙ ap (λ more. before image (items.Instruction index place) ++ more) (append_assoc (instruction i) rest behind_f))
  where
    five : (a count whole front own more regions : List ℕ) → whole ≡ front ++ (own ++ more) → a ++ (count ++ whole) ++ regions ≡ (a ++ count ++ front) ++ (own ++ (more ++ regions))
    five a count whole front own more regions e = rw e (simp append_assoc)
items_stand image (items.Count index) within =
    let (f, at) = there image.functions index within in
    let rest = flat_map instruction f.code ++ list region f.regions in
    let behind_f = flat_map function (drop (suc index) image.functions) ++ behind_functions image in
    standing image (items.Count index) (number (length f.code)) (rest ++ behind_f)
    (own_is (slice_get image.functions index) f (λ (f : Function). number (length f.code)) at)
    (in_functions image index f before_code (number (length f.code) ++ rest) at (three (before_code f) (number (length f.code)) (flat_map instruction f.code) (list region f.regions))
    ∙ ap (λ more. before image (items.Count index) ++ more) (append_assoc (number (length f.code)) rest behind_f))
  where
    three : (a count whole regions : List ℕ) → a ++ (count ++ whole) ++ regions ≡ a ++ (count ++ (whole ++ regions))
    three a count whole regions = simp append_assoc
items_stand image (items.Region index own) (f, at, within) =
    let (r, e) = there f.regions own within in
    let rest = flat_map region (drop (suc own) f.regions) in
    let behind_f = flat_map function (drop (suc index) image.functions) ++ behind_functions image in
    standing image (items.Region index own) (region r) (rest ++ behind_f)
    (own_is (slice_get image.functions index) f (λ (f : Function). of (slice_get f.regions own) region) at ∙ own_is (slice_get f.regions own) r region e)
    (in_functions image index f (before_region own) (region r ++ rest) at (five (before_code f) (list instruction f.code) (number (length f.regions)) (flat_map region f.regions) (flat_map region (take own f.regions)) (region r) rest (split region f.regions own r e))
    ∙ ap (λ more. before image (items.Region index own) ++ more) (append_assoc (region r) rest behind_f))
  where
    five : (a code count whole front own more : List ℕ) → whole ≡ front ++ (own ++ more) → a ++ code ++ (count ++ whole) ≡ (a ++ code ++ count ++ front) ++ (own ++ more)
    five a code count whole front own more e = rw e (simp append_assoc)
items_stand image (items.Dropper type) within =
    let (entry, e) = there image.types type within in
    let more = flat_map type_entry (drop (suc type) image.types) ++ (list global image.globals ++ (list function image.functions ++ behind_functions image)) in
    standing image (items.Dropper type) (number entry.dropper) more
    (own_is (slice_get image.types type) entry (λ (entry : TypeEntry). number entry.dropper) e)
    (spelled image ∙ (ap (λ front. front ++ number image.main ++ number image.handler) (before_main_is image ∙ ap (λ front. front ++ list function image.functions ++ list assertion image.assertions) (before_functions_is image))
    ∙ all (before_types image) (flat_map type_entry image.types) (list global image.globals) (list function image.functions) (list assertion image.assertions) (number image.main) (number image.handler)
    (up_to type_entry before_dropper image.types type) (number entry.dropper) (flat_map type_entry (drop (suc type) image.types)) (behind type_entry before_dropper image.types type entry (number entry.dropper) e refl)))
  where
    all : (a whole b c d m h up own more : List ℕ) → whole ≡ up ++ (own ++ more) → a ++ whole ++ b ++ c ++ d ++ m ++ h ≡ (a ++ up) ++ (own ++ (more ++ (b ++ (c ++ (d ++ (m ++ h))))))
    all a whole b c d m h up own more e = rw e (simp append_assoc)
items_stand image items.Main has = (number image.handler, spelled image)
items_stand image items.Handler has = ([], spelled image ∙ sym (append-nil _))

-- no item stands behind the bytes of the image
pub place_within : (image : Image) (item : Item) → HasItem image item → place_of image item ≤ length (image_spelling image)
place_within image item has =
    let (rest, is) = items_stand image item has in
    omega (arith, ap length is, length-append (before image item ++ item_bytes image item) rest, length-append (before image item) (item_bytes image item))

-- the place is a number of 32 bits
pub place_fits : (image : Image) (item : Item) → IsStorable image → HasItem image item → place_of image item < 2 ^ 32
place_fits image item storable has = omega (arith, place_within image item has, storable.bytes)

-- ---- what is written up to an item

module _ {X : Type 0} (item first : X → List ℕ) (xs : List X) (index : ℕ) (x : X) (at : slice_get xs index ≡ Some x) where
  pub written_up_to : (out before count : List ℕ) → out ≡ (([] ++ before) ++ count ++ flat_map item (take index xs)) ++ first x → out ≡ before ++ count ++ up_to item first xs index
  written_up_to out before count e = e ∙ rw (up_to_is item first xs index x at) (simp append_assoc)

  -- as long as what stands there, where the counts of the item differ
  pub as_long : (more : X → List ℕ) (out before here there rest : List ℕ) → out ≡ (before ++ up_to item first xs index) ++ (here ++ rest) → length here ≡ length there → more x ≡ first x ++ there ++ rest
      → length out ≡ length (before ++ up_to item more xs index)
  as_long more out before here there rest e same is =
      rw (e, up_to_is item first xs index x at, up_to_is item more xs index x at, is) (simp length-append (omega (arith, same)))

pub same_counts : (m n : ℕ) → length (number m) ≡ length (number n)
same_counts m n = length_number m ∙ sym (length_number n)

pub same_behind : (front : List ℕ) (m n : ℕ) → length (front ++ number m) ≡ length (front ++ number n)
same_behind front m n = omega (arith, same_counts m n, length-append front (number m), length-append front (number n))

pub joined : (a b c d : List ℕ) → a ++ b ++ (c ++ d) ≡ a ++ (b ++ c ++ d)
joined a b c d = simp append_assoc
