-- Where each item of an image that the rules judge stands in its file: what the file holds before it, by the order of the fields; the format is this project's own.
use Rattle.std.specs.Prelude.{◌≡◌, ℕ, zero, suc, ◌<◌, List, [], ◌∷◌, ◌++◌, length, take, codes, Option, Some, None, slice_get, ⊤}
use Rattle.std.specs.List.{flat_map}
use Rattle.cx_code.specs.declared.image.Image.{Image}
use Rattle.cx_code.specs.declared.image.Function.{Function}
use Rattle.cx_code.specs.declared.image.TypeEntry.{TypeEntry}
use Rattle.cx_code.specs.Spelling.{number, flag, text, list, instruction, region, type_entry, global, function, assertion, image_spelling}
use Rattle.cx_reach.specs.declared.item.Item.{Item}
use Rattle.cx_reach.specs.declared.item.Item.TheVariants as items

-- up to the entries of the types
unfoldable pub before_types : Image → List ℕ
before_types image = codes "CXIM" ++ (1 ∷ []) ++ list text image.texts ++ number (length image.types)

-- of an entry of a type, up to its dropper
abbrev pub before_dropper : TypeEntry → List ℕ
before_dropper entry = text entry.name ++ number entry.leaves

-- up to the list of the functions
unfoldable pub before_functions : Image → List ℕ
before_functions image = before_types image ++ flat_map type_entry image.types ++ list global image.globals

-- of a function, up to the count of its instructions
abbrev pub before_code : Function → List ℕ
before_code f = text f.name ++ flag f.counted ++ number f.parameters ++ number f.slots ++ flag f.result

-- of a function, up to an instruction, and up to a region
abbrev pub before_instruction : ℕ → Function → List ℕ
before_instruction place f = before_code f ++ number (length f.code) ++ flat_map instruction (take place f.code)

abbrev pub before_region : ℕ → Function → List ℕ
before_region index f = before_code f ++ list instruction f.code ++ number (length f.regions) ++ flat_map region (take index f.regions)

-- the items of a list before the one of an index, and of that one what comes first
unfoldable pub up_to : {X : Type 0} → (X → List ℕ) → (X → List ℕ) → List X → ℕ → List ℕ
up_to item first [] index = []
up_to item first (x ∷ xs) zero = first x
up_to item first (x ∷ xs) (suc index) = item x ++ up_to item first xs index

-- up to the field `main`
unfoldable pub before_main : Image → List ℕ
before_main image = before_functions image ++ list function image.functions ++ list assertion image.assertions

abbrev pub before : Image → Item → List ℕ
before image (items.Instruction index place) = before_functions image ++ number (length image.functions) ++ up_to function (before_instruction place) image.functions index
before image (items.Count index) = before_functions image ++ number (length image.functions) ++ up_to function before_code image.functions index
before image (items.Region index own) = before_functions image ++ number (length image.functions) ++ up_to function (before_region own) image.functions index
before image (items.Dropper type) = before_types image ++ up_to type_entry before_dropper image.types type
before image items.Main = before_main image
before image items.Handler = before_main image ++ number image.main

-- the offset of the item's first byte
abbrev pub place_of : Image → Item → ℕ
place_of image item = length (before image item)

-- the image has the item
abbrev pub HasItem : Image → Item → Type 0
HasItem image (items.Instruction index place) = (f : Function) × (slice_get image.functions index ≡ Some f) × (place < length f.code)
HasItem image (items.Count index) = index < length image.functions
HasItem image (items.Region index own) = (f : Function) × (slice_get image.functions index ≡ Some f) × (own < length f.regions)
HasItem image (items.Dropper type) = type < length image.types
HasItem image items.Main = ⊤
HasItem image items.Handler = ⊤

-- ---- what stands there

abbrev pub of : {X : Type 0} → Option X → (X → List ℕ) → List ℕ
of None bytes = []
of (Some x) bytes = bytes x

-- the bytes of the item itself: the instruction, the count, the region, the dropper or the field
abbrev pub item_bytes : Image → Item → List ℕ
item_bytes image (items.Instruction index place) = of (slice_get image.functions index) (λ (f : Function). of (slice_get f.code place) instruction)
item_bytes image (items.Count index) = of (slice_get image.functions index) (λ (f : Function). number (length f.code))
item_bytes image (items.Region index own) = of (slice_get image.functions index) (λ (f : Function). of (slice_get f.regions own) region)
item_bytes image (items.Dropper type) = of (slice_get image.types type) (λ (entry : TypeEntry). number entry.dropper)
item_bytes image items.Main = number image.main
item_bytes image items.Handler = number image.handler

-- each item of an image stands in its bytes, at its place
abbrev pub ItemsStand : Type 0
ItemsStand = (image : Image) (item : Item) → HasItem image item → (rest : List ℕ) × (image_spelling image ≡ before image item ++ item_bytes image item ++ rest)
