-- The fields of a frame, without their coding in octets (GSM 04.06, section 3.8).
use Rattle.std.specs.Prelude.{ℕ, Bool, false, List, [], ◌∷◌, Option, Some, None}
use Rattle.std.specs.Borrow.{Bor}
use Rattle.lapdm_frame.specs.declared.Body.{Body}
use Rattle.lapdm_frame.specs.declared.Body.TheVariants as B
use Rattle.lapdm_frame.specs.declared.FrameFields.{FrameFields}
use Rattle.lapdm_frame.specs.declared.FrameView.{FrameView}
use Rattle.lapdm_frame.specs.declared.Kind.{Kind}
use Rattle.lapdm_frame.specs.declared.Kind.TheVariants as K

-- the kind of a frame with its fields: N(S) and N(R), the P or F bit, the M bit (`more`: the message continues in the next I frame), and
-- the octets of information
pub data Content : Type 0 where
  I : (ns nr : ℕ) → (p more : Bool) → (info : List ℕ) → Content
  Rr : (nr : ℕ) → (pf : Bool) → Content
  Rnr : (nr : ℕ) → (pf : Bool) → Content
  Rej : (nr : ℕ) → (pf : Bool) → Content
  Sabm : (p : Bool) → (info : List ℕ) → Content
  Dm : (f : Bool) → Content
  Ui : (p : Bool) → (info : List ℕ) → Content
  Disc : (p : Bool) → Content
  Ua : (f : Bool) → (info : List ℕ) → Content

-- a frame: its SAPI and C/R bit (from the address field) and its content
pub record Frame : Type 0 where
  pub sapi : ℕ
  pub cr : Bool
  pub content : Content

-- the content that a Rust `Body` represents
abbrev pub content_of_body : Body → Content
content_of_body (B.I ns nr p more info) = I ns nr p more info.now
content_of_body (B.Rr nr pf) = Rr nr pf
content_of_body (B.Rnr nr pf) = Rnr nr pf
content_of_body (B.Rej nr pf) = Rej nr pf
content_of_body (B.Sabm p info) = Sabm p info.now
content_of_body (B.Dm f) = Dm f
content_of_body (B.Ui p info) = Ui p info.now
content_of_body (B.Disc p) = Disc p
content_of_body (B.Ua f info) = Ua f info.now

-- the frame that a Rust `FrameView` represents
abbrev pub frame_of_view : FrameView → Frame
frame_of_view view = record { sapi = view.sapi; cr = view.cr; content = content_of_body view.body }

-- the information octets that a `Body` borrows from its block, or `None` if its kind has no information
abbrev pub borrowed_information : Body → Option (Bor (List ℕ))
borrowed_information (B.I ns nr p more info) = Some info
borrowed_information (B.Sabm p info) = Some info
borrowed_information (B.Ui p info) = Some info
borrowed_information (B.Ua f info) = Some info
borrowed_information other = None

-- the information octets of a frame; RR, RNR, REJ, DM and DISC have none
abbrev pub information : Content → List ℕ
information (I ns nr p more info) = info
information (Sabm p info) = info
information (Ui p info) = info
information (Ua f info) = info
information other = []

-- the M bit of an I frame, true if the message continues in the next I frame; false for every other kind
abbrev pub more_follows : Content → Bool
more_follows (I ns nr p more info) = more
more_follows other = false

-- all frame kinds; the number of a kind in the C API is its index in this list
abbrev pub all_frame_kinds : List Kind
all_frame_kinds = K.I ∷ K.Rr ∷ K.Rnr ∷ K.Rej ∷ K.Sabm ∷ K.Dm ∷ K.Ui ∷ K.Disc ∷ K.Ua ∷ []

abbrev pub kind_number : Kind → ℕ
kind_number K.I = 0
kind_number K.Rr = 1
kind_number K.Rnr = 2
kind_number K.Rej = 3
kind_number K.Sabm = 4
kind_number K.Dm = 5
kind_number K.Ui = 6
kind_number K.Disc = 7
kind_number K.Ua = 8

-- the kind of a frame, and every field that a frame of any kind may have
pub record Fields : Type 0 where
  pub kind : Kind
  pub ns : ℕ
  pub nr : ℕ
  pub pf : Bool
  pub more : Bool
  pub info : List ℕ

abbrev pub fields : (kind : Kind) (ns nr : ℕ) (pf more : Bool) (info : List ℕ) → Fields
fields kind ns nr pf more info = record { kind = kind; ns = ns; nr = nr; pf = pf; more = more; info = info }

-- the kind and the fields of this content; the fields that its kind does not have are 0, false or empty
abbrev pub fields_of_content : Content → Fields
fields_of_content (I ns nr p more info) = fields K.I ns nr p more info
fields_of_content (Rr nr pf) = fields K.Rr 0 nr pf false []
fields_of_content (Rnr nr pf) = fields K.Rnr 0 nr pf false []
fields_of_content (Rej nr pf) = fields K.Rej 0 nr pf false []
fields_of_content (Sabm p info) = fields K.Sabm 0 0 p false info
fields_of_content (Dm f) = fields K.Dm 0 0 f false []
fields_of_content (Ui p info) = fields K.Ui 0 0 p false info
fields_of_content (Disc p) = fields K.Disc 0 0 p false []
fields_of_content (Ua f info) = fields K.Ua 0 0 f false info

-- the content of a given kind with the given fields; fields that this kind does not have are ignored
abbrev pub content_with_fields : (kind : Kind) (ns nr : ℕ) (pf more : Bool) (info : List ℕ) → Content
content_with_fields K.I ns nr pf more info = I ns nr pf more info
content_with_fields K.Rr ns nr pf more info = Rr nr pf
content_with_fields K.Rnr ns nr pf more info = Rnr nr pf
content_with_fields K.Rej ns nr pf more info = Rej nr pf
content_with_fields K.Sabm ns nr pf more info = Sabm pf info
content_with_fields K.Dm ns nr pf more info = Dm pf
content_with_fields K.Ui ns nr pf more info = Ui pf info
content_with_fields K.Disc ns nr pf more info = Disc pf
content_with_fields K.Ua ns nr pf more info = Ua pf info

-- the fields that a Rust `FrameFields` represents
abbrev pub field_values_of_frame_fields : FrameFields → Fields
field_values_of_frame_fields f = fields f.kind f.ns f.nr f.pf f.more f.info.now

abbrev pub content_of_fields : Fields → Content
content_of_fields f = content_with_fields f.kind f.ns f.nr f.pf f.more f.info

-- the fill frame: a UI frame of SAPI 0 without information, sent when there is nothing else to send
abbrev pub fill_frame : Bool → Frame
fill_frame cr = record { sapi = 0; cr = cr; content = Ui false [] }
