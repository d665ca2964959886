-- Rust's operators on f32 under short names, and constants by their bits. c0·25 is 0.25, and two_to23 is 2^23. Assumes nothing.
use Rattle.std.specs.Prelude.{from_bits, Float}
use Rattle.std.specs.Float.{binary32}
use Rattle.std.specs.Float.Ieee.{add, sub, mul, div}

infixl 65 ◌⊕◌
infixl 65 ◌⊖◌
infixl 70 ◌⊗◌
infixl 70 ◌⊘◌
abbrev pub ◌⊕◌ : Float → Float → Float
x ⊕ y = add binary32 x y

abbrev pub ◌⊖◌ : Float → Float → Float
x ⊖ y = sub binary32 x y

abbrev pub ◌⊗◌ : Float → Float → Float
x ⊗ y = mul binary32 x y

abbrev pub ◌⊘◌ : Float → Float → Float
x ⊘ y = div binary32 x y

abbrev pub c0 : Float
c0 = from_bits binary32 0x00000000

abbrev pub c0·00005 : Float
c0·00005 = from_bits binary32 0x3851b717

abbrev pub c0·01 : Float
c0·01 = from_bits binary32 0x3c23d70a

abbrev pub c0·015 : Float
c0·015 = from_bits binary32 0x3c75c28f

abbrev pub c0·025 : Float
c0·025 = from_bits binary32 0x3ccccccd

abbrev pub c0·06 : Float
c0·06 = from_bits binary32 0x3d75c28f

abbrev pub c0·08 : Float
c0·08 = from_bits binary32 0x3da3d70a

abbrev pub c0·1 : Float
c0·1 = from_bits binary32 0x3dcccccd

abbrev pub c0·12 : Float
c0·12 = from_bits binary32 0x3df5c28f

abbrev pub c0·15 : Float
c0·15 = from_bits binary32 0x3e19999a

abbrev pub c0·225 : Float
c0·225 = from_bits binary32 0x3e666666

abbrev pub c0·24 : Float
c0·24 = from_bits binary32 0x3e75c28f

abbrev pub c0·25 : Float
c0·25 = from_bits binary32 0x3e800000

abbrev pub c0·26 : Float
c0·26 = from_bits binary32 0x3e851eb8

abbrev pub c0·3 : Float
c0·3 = from_bits binary32 0x3e99999a

abbrev pub c0·308 : Float
c0·308 = from_bits binary32 0x3e9db22d

abbrev pub c0·408 : Float
c0·408 = from_bits binary32 0x3ed0e560

abbrev pub c0·499 : Float
c0·499 = from_bits binary32 0x3eff7cee

abbrev pub c0·4999 : Float
c0·4999 = from_bits binary32 0x3efff2e5

abbrev pub c0·5 : Float
c0·5 = from_bits binary32 0x3f000000

abbrev pub c0·618 : Float
c0·618 = from_bits binary32 0x3f1e353f

abbrev pub c0·7 : Float
c0·7 = from_bits binary32 0x3f333333

abbrev pub c0·75 : Float
c0·75 = from_bits binary32 0x3f400000

abbrev pub c0·85 : Float
c0·85 = from_bits binary32 0x3f59999a

abbrev pub c0·93 : Float
c0·93 = from_bits binary32 0x3f6e147b

abbrev pub c0·94 : Float
c0·94 = from_bits binary32 0x3f70a3d7

abbrev pub c0·95 : Float
c0·95 = from_bits binary32 0x3f733333

abbrev pub c0·98 : Float
c0·98 = from_bits binary32 0x3f7ae148

abbrev pub c0·9999 : Float
c0·9999 = from_bits binary32 0x3f7ff972

abbrev pub c0·99995 : Float
c0·99995 = from_bits binary32 0x3f7ffcb9

abbrev pub c1 : Float
c1 = from_bits binary32 0x3f800000

abbrev pub c1·35135 : Float
c1·35135 = from_bits binary32 0x3facf909

abbrev pub c1·5 : Float
c1·5 = from_bits binary32 0x3fc00000

abbrev pub c2 : Float
c2 = from_bits binary32 0x40000000

abbrev pub c2·1 : Float
c2·1 = from_bits binary32 0x40066666

abbrev pub c3 : Float
c3 = from_bits binary32 0x40400000

abbrev pub c4 : Float
c4 = from_bits binary32 0x40800000

abbrev pub c4·166 : Float
c4·166 = from_bits binary32 0x40854fdf

abbrev pub c6 : Float
c6 = from_bits binary32 0x40c00000

abbrev pub c8 : Float
c8 = from_bits binary32 0x41000000

abbrev pub c12 : Float
c12 = from_bits binary32 0x41400000

abbrev pub c16 : Float
c16 = from_bits binary32 0x41800000

abbrev pub c20 : Float
c20 = from_bits binary32 0x41a00000

abbrev pub c24 : Float
c24 = from_bits binary32 0x41c00000

abbrev pub c36 : Float
c36 = from_bits binary32 0x42100000

abbrev pub c60 : Float
c60 = from_bits binary32 0x42700000

abbrev pub c64 : Float
c64 = from_bits binary32 0x42800000

abbrev pub c72 : Float
c72 = from_bits binary32 0x42900000

abbrev pub c79·7 : Float
c79·7 = from_bits binary32 0x429f6666

abbrev pub c84 : Float
c84 = from_bits binary32 0x42a80000

abbrev pub c100 : Float
c100 = from_bits binary32 0x42c80000

abbrev pub c128 : Float
c128 = from_bits binary32 0x43000000

abbrev pub c160 : Float
c160 = from_bits binary32 0x43200000

abbrev pub c255 : Float
c255 = from_bits binary32 0x437f0000

abbrev pub c256 : Float
c256 = from_bits binary32 0x43800000

abbrev pub c500 : Float
c500 = from_bits binary32 0x43fa0000

abbrev pub c1020 : Float
c1020 = from_bits binary32 0x447f0000

abbrev pub c48000 : Float
c48000 = from_bits binary32 0x473b8000

abbrev pub two_to15 : Float
two_to15 = from_bits binary32 0x47000000

abbrev pub two_to23 : Float
two_to23 = from_bits binary32 0x4b000000

abbrev pub two_to32 : Float
two_to32 = from_bits binary32 0x4f800000

abbrev pub two_to64 : Float
two_to64 = from_bits binary32 0x5f800000
