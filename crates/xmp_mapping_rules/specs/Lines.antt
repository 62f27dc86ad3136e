-- What is made of a world once: the sizes of its nodes array, and what its lines are about. Source: this project.
use Rattle.std.specs.Prelude.{◌≡◌, ℕ, ℤ, List}
use Rattle.xmp_names.specs.declared.world.World.{World}
use Rattle.xmp_mapping_rules.specs.MappingRules.{aligned, distributed, nodes_of, shadowed}

-- These are the sizes of the nodes array, the template of each distribution, and the array of each align and shadow.
abbrev pub AreFirst : World → List ℤ → List ℕ → List ℕ → List ℕ → Type 0
AreFirst w nodes distributions aligns shadows =
    (nodes ≡ nodes_of w) × ((distributions ≡ distributed w) × ((aligns ≡ aligned w) × (shadows ≡ shadowed w)))
